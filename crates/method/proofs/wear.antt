-- The counters of erases, and number 12.
pub mod WornLaws
pub mod EachCounter
pub mod CallsWear
pub mod WornOut
pub mod WearCounts
pub mod HighestKept
