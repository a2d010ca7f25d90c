-- How the code works inside: the tables of a pass, and the move that they tell. Nothing here has to be believed.
pub mod Prepared
pub mod Rebuild
pub mod Refusals
pub mod Steps
