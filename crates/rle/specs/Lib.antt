-- What the functions of this crate compute on their way to the definitions' lists: Most (as many numbers as words can
-- list), Runs (words that were passed).
pub mod Most
pub mod Runs
