-- The numbers that calls return.
pub mod FirstReturned
pub mod PinFirst
pub mod ListRefusals
