-- What the contracts of this crate say.
pub mod Lists
pub mod Tables
pub mod Refusals
pub mod Geometry
pub mod PageSum
pub mod Chip
pub mod Wear
pub mod Claims
pub mod inner
