-- InRangeLaws (the events of a run are in range), ToldLaws (one call on a state), ReachedLaws (calls one after the
-- other), CallsTurn (the loop over the sizes), Unique (no second answer).
pub mod InRangeLaws
pub mod ToldLaws
pub mod ReachedLaws
pub mod CallsTurn
pub mod Unique
