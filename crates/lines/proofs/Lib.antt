-- Unique (no second answer satisfies a contract).
pub mod Unique
