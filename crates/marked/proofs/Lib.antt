-- RunLaws (equal marks in a row), BitsLaws (marks as bits), WordsLaws (the next word, and all of them), FaultLaws (14
-- and 17).
pub mod RunLaws
pub mod BitsLaws
pub mod WordsLaws
pub mod FaultLaws
