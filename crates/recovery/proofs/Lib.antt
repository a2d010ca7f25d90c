-- The laws behind the proofs of this crate.
pub mod Reading
pub mod Search
pub mod Stretches
pub mod Tells
pub mod Answer
