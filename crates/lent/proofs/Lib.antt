-- PatternLaws (the pattern), TellLaws (what is printed of a call that listed into lent memory is its answer alone),
-- Unique, UniqueHeld (no second answer).
pub mod PatternLaws
pub mod TellLaws
pub mod Unique
pub mod UniqueHeld
