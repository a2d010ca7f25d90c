-- How the code works inside: a place and the step there, as the code has them. Nothing here has to be believed.
pub mod Place
