-- Turn (one turn of the loops that store numbers), Unique (no second answer).
pub mod Turn
pub mod Unique
