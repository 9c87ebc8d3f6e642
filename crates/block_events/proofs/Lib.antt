-- FaultLaws (7 by the words), EventsLaws (a block's events, and how many there are), PartLaws (numbers filled into a
-- part of a list), AheadLaws (events on their way into four lists), PairsTurn and EntriesTurn (one turn of the storing
-- loops), PutLaws (a block's events from what its calls stored).
pub mod FaultLaws
pub mod AheadLaws
pub mod EventsLaws
pub mod PartLaws
pub mod PairsTurn
pub mod EntriesTurn
pub mod PutLaws
pub mod Unique
