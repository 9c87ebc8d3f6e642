-- LowLaws (little-endian numbers and words), SwapLaws (their big-endian bytes), Unique (no second answer).
pub mod LowLaws
pub mod SwapLaws
pub mod Unique
