-- StandardTurn (a turn of the loops), ClearLaws (words that must be clear, then listed), Unique (no second answer).
pub mod StandardTurn
pub mod ClearLaws
pub mod Unique
