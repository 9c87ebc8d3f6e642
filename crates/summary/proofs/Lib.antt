-- SummaryLaws (each way in which the question ends), Unique (no second answer).
pub mod SummaryLaws
pub mod Unique
