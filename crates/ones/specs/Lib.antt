-- What the functions of this crate compute on the way to the definitions' lists. Read in this order: Along (numbers one
-- step apart, listed), Places (one word's places), Stops (where the crate's list of a word ends), Digits.
pub mod Along
pub mod Places
pub mod Stops
pub mod Digits
