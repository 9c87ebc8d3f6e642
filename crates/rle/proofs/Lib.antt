-- CrateLaws (the crate's list word by word), CrateTurn and RunsTurn (a turn of each loop), Unique (no second answer).
pub mod CrateLaws
pub mod CrateTurn
pub mod RunsTurn
pub mod Unique
