-- Ones: the places of value one among a word's first places.
pub mod Ones
