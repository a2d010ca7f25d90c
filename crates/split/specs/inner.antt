-- How the code works inside: masks, tables and what the loops keep. Nothing here has to be believed.
pub mod Rows
pub mod Mask
pub mod Dropping
pub mod Cells
pub mod Inverse
pub mod Work
