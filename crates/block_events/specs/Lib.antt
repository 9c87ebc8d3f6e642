-- Pairs: what a call that stores pairs leaves.
pub mod Pairs
