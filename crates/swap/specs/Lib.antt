-- What the contracts of the stores say.
-- Read in this order: Eights (eight bytes at once), Swapped (little-endian numbers as big-endian bytes).
pub mod Eights
pub mod Swapped
