-- UnionLaws (the bits that some byte has), PlaceLaws (the first byte that is no mark), FourLaws (four marks as one
-- number), RunLaws (whether fifteen are equal),
-- SameLaws (equal marks in a row), NextLaws (the next word), WordsTurn (the words so far), Unique (no second answer).
pub mod UnionLaws
pub mod PlaceLaws
pub mod FourLaws
pub mod RunLaws
pub mod SameLaws
pub mod NextLaws
pub mod WordsTurn
pub mod Unique
