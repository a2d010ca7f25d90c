-- How the code works inside: what the search of the marks gathers. Nothing here has to be believed.
pub mod Gathered
