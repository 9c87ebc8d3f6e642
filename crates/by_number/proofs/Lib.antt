-- ByLaws (each way in which a question by a number ends), ViewLaws (the same of a view), Unique (no second answer).
pub mod ByLaws
pub mod ViewLaws
pub mod Unique
