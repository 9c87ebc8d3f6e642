-- Stores: what a call that stores a list leaves.
pub mod Stores
