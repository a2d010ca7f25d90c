-- How the code works inside: elimination over masks, and what is told of a line. Nothing here has to be believed.
pub mod Elimination
pub mod Told
pub mod Pages
pub mod Turns
pub mod Checks
