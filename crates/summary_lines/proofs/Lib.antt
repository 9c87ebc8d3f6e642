-- Unique (no second answer).
pub mod Unique
