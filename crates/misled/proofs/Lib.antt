-- FirstLaws (a word's first one from a place on), QuietLaws (words without ones), OutsideLaws (a word's first one
-- outside the range), StretchTurn (one turn of the loops over a stretch of words), WordsTurn (one turn of the pass
-- over the words), MisledLaws (whether a record misleads, by its kind), Worked (worked facts), Unique (no second
-- answer).
pub mod FirstLaws
pub mod QuietLaws
pub mod OutsideLaws
pub mod StretchTurn
pub mod WordsTurn
pub mod MisledLaws
pub mod Worked
pub mod Unique
