-- BytesLaws (big-endian numbers and words in lists of bytes), ClearLaws (fitness, and words that hold no run of no
-- length), StoresLaws (numbers stored big-endian), PartLaws (a part of a list), PairsLaws (a list of bytes as arrays of
-- two), Unique (no second answer).
pub mod BytesLaws
pub mod ClearLaws
pub mod StoresLaws
pub mod PartLaws
pub mod PairsLaws
pub mod Unique
