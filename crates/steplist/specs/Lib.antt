-- The program's output as a definition, its examples, and how the code gets there.
pub mod Output
pub mod Claims
pub mod Example
pub mod inner
