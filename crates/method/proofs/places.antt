-- The steps of a move, and what each place holds.
pub mod StepsCounted
pub mod StepsAtPlaces
pub mod Turns
pub mod PagesHeld
pub mod PlaceShape
pub mod PlacesDiffer
pub mod Tallies
pub mod ErasesCounted
pub mod PagesRise
