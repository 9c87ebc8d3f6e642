-- BytesLaws (fields from bytes held as numbers), FaultLaws (what a word shows), KindLaws (the kind
-- of a type number), HeldLaws (bytes gathered as a number), WeightLaws (an item's events, and how many they are),
-- SettledLaws (an item that may be complete), Unique (no second answer).
pub mod BytesLaws
pub mod FaultLaws
pub mod KindLaws
pub mod HeldLaws
pub mod WeightLaws
pub mod SettledLaws
pub mod Unique
