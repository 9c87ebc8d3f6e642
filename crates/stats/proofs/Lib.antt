-- ShownLaws (std's words for options), BackLaws (a summary from its flags and numbers), Unique (no second answer).
pub mod ShownLaws
pub mod BackLaws
pub mod Unique
