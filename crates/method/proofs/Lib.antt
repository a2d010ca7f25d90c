-- The proofs, by what they are about: from single facts to the theorems.
pub mod basics
pub mod cycles
pub mod walks
pub mod places
pub mod wear
pub mod states
pub mod recovery
pub mod demand
pub mod reach
pub mod rebuild
pub mod examples
pub mod refusals
