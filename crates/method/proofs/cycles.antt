-- The blocks of a set and their cycles.
pub mod Orbits
pub mod SetCycles
pub mod Tops
