-- What the contracts of the mover cite.
pub mod Answers
pub mod inner
