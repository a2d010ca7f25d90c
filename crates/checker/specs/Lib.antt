-- The definitions, each before those that rest on it; the theorems last.
pub mod Lines
pub mod Pages
pub mod Answer
pub mod Method
pub mod Claims
pub mod Examples
pub mod inner
