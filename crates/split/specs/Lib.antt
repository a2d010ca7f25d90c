-- The files of definitions.
pub mod OneToOne
pub mod Drops
pub mod Split
pub mod Rule
pub mod Pins
pub mod Request
pub mod Answer
pub mod PinFirst
pub mod Claims
pub mod inner
