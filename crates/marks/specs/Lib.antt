-- Gathered: four bytes that are marks as four bits, and fifteen. Runs: equal marks between two places. Both are
-- private.
pub mod Gathered
pub mod Runs
