-- How the code works inside: a division by a product, the bytes of a pass, counters without their pair. Nothing here has to be believed.
pub mod Reciprocal
pub mod Terms
pub mod Totals
pub mod Unpaired
