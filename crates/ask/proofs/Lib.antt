-- AskLaws (each way in which a question ends), Unique (no second answer).
pub mod AskLaws
pub mod Unique
