-- Demand 3, over any list of events.
pub mod KeptByHistories
pub mod CallsWithoutSteps
pub mod RunEvents
pub mod MendEvents
pub mod EveryEvent
pub mod PinsKept
