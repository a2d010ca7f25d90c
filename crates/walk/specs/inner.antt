-- How the code works inside: rows and tables of the sets, the walks along them, the moment. Nothing here has to be believed.
pub mod Moments
pub mod Rows
pub mod Slots
pub mod Terms
