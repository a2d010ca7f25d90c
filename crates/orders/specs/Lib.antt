-- The definitions, each before those that rest on it; the theorems last.
pub mod Orders
pub mod Dictionary
pub mod Answer
pub mod Claims
pub mod Examples
pub mod inner
