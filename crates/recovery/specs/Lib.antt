-- What the contracts of this crate say.
pub mod MarksRead
pub mod inner
