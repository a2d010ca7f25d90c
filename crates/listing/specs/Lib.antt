pub mod Area
pub mod Numbers
pub mod Input
pub mod ReaderAnswers
pub mod Digits
pub mod Lines
pub mod Examples
