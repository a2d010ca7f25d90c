-- Cases and examples, by computing.
pub mod ExampleCuts
pub mod Largest
pub mod Cases
pub mod DropCases
pub mod WearCases
pub mod ReachCases
pub mod RebuildCases
pub mod Example
pub mod TwoPages
