-- How the code works inside: places of blocks, the table of who sends to whom, and the search. Nothing here has to be believed.
pub mod Places
pub mod Table
pub mod Search
pub mod Calls
