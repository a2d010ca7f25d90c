-- Runs lead from place to place, and keep what pages hold.
pub mod NextPlace
pub mod PagesWritten
pub mod Undropped
pub mod StepsKeepPages
pub mod StepsLeadOn
pub mod StatesOfPlaces
pub mod AtRest
pub mod MadeAtRest
pub mod StepsAddUp
pub mod RunsAddUp
pub mod RunsCount
pub mod ReadsCounted
