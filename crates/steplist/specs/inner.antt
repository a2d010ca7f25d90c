-- How the code works inside: what the program is given on its way, and how far its listing has come. Nothing here has to be believed.
pub mod Given
pub mod Listing
pub mod Originals
