-- What the contracts of this crate say.
pub mod Operation
pub mod inner
