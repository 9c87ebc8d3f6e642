-- ListLaws (little-endian numbers, the words' bytes, both records), Unique (no second answer).
pub mod ListLaws
pub mod Unique
