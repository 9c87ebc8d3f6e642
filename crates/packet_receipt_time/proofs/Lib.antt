-- PairsLaws (the two readings' pairs as a first stretch of the times), PairsTurn (one turn of the storing loop),
-- PairsAnswers (each way in which a listing call ends).
pub mod PairsLaws
pub mod PairsTurn
pub mod PairsAnswers
pub mod Unique
