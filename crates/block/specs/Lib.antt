-- Lengths: what is asked of a block before its words are looked at.
pub mod Lengths
