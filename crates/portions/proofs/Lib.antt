-- ItemLaws (the events of a complete item, as they are stored), TurnLaws (some bytes of an item, or a whole block),
-- StoreTurn (some bytes, turn by turn), MostLaws (how many events bytes have at most), PastLaws (how many a call has
-- that 19 does not refuse), CallLaws (one call), Unique (no second answer).
pub mod ItemLaws
pub mod TurnLaws
pub mod StoreTurn
pub mod MostLaws
pub mod PastLaws
pub mod CallLaws
pub mod Unique
