-- Read in this order: Laid (what a call that stores events leaves), Parts (events read back).
pub mod Laid
pub mod Parts
