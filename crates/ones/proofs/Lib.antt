-- ListingLaws (lists by positions, numbers one step apart), WordLaws (the numbers of one word's ones), DigitLaws (a
-- vector's places as digits), RestLaws (a word's places from one on), NumbersLaws (the standard list word by word),
-- StopLaws (where the crate's list of a word ends), Unique (no second answer).
pub mod ListingLaws
pub mod WordLaws
pub mod DigitLaws
pub mod RestLaws
pub mod NumbersLaws
pub mod StopLaws
pub mod Unique
