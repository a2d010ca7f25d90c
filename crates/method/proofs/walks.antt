-- Read's walks: they end, and sum to the original.
pub mod WalkSlots
pub mod WalkBounds
pub mod StoredPages
pub mod Terms
pub mod CodedWalks
pub mod ReadsOriginals
pub mod WalksEnd
pub mod ReadCosts
