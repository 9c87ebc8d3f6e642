-- LegalLaws (legal cursors and one step), StepsLaws (several steps; a and then b), WithinLaws (those inside one word
-- at once),
-- PlacesLaws (the numbers of some places of a word), GoTurn (one turn of the loop), AdvanceLaws (the ways in which a
-- call ends),
-- CursorLaws (a stretch of many steps), Unique (no second answer).
pub mod LegalLaws
pub mod StepsLaws
pub mod WithinLaws
pub mod PlacesLaws
pub mod GoTurn
pub mod AdvanceLaws
pub mod CursorLaws
pub mod Unique
