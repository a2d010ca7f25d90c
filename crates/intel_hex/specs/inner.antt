-- How the reader's code works inside: where a record's fields stand, what its passes find, and the bits of a span. Nothing here has to be believed.
pub mod Lines
pub mod Kinds
pub mod Tops
pub mod Passes
pub mod Bits
