-- Turn (one word of a list that goes word by word, for every crate of lists), Unique (no second answer).
pub mod Turn
pub mod Unique
