-- Read in this order: Flat (the library's answers as numbers), Lists (the contracts of the exported calls that list).
pub mod Flat
pub mod Lists
