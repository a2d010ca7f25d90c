-- The laws behind the proofs of this crate.
pub mod PlaceLaws
pub mod StepTold
pub mod MarkLaws
