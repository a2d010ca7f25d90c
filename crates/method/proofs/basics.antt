-- What all proofs of this crate start from.
pub mod Open
pub mod Indexes
pub mod EachNumber
pub mod MoveShape
pub mod AcceptedCalls
