-- SequenceLaws (doublings and the crate's test), NumberLaws (a position's number), InsideLaws (which positions are
-- inside), GridLaws (the range of a block's fields), FailLaws (where the crate's test fails), NextLaws (the same after
-- the start has moved on).
pub mod SequenceLaws
pub mod NumberLaws
pub mod InsideLaws
pub mod GridLaws
pub mod FailLaws
pub mod NextLaws
pub mod Unique
