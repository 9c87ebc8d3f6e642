pub mod KnownLaws
-- Unique (no second answer).
pub mod Unique
