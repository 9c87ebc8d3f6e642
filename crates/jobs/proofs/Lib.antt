-- KindLaws (the kind of block that a record asks for), HeaderLaws (when a header record is good), JobsLaws (a list's
-- records, and 12), PlaceLaws (a record at a place), Unique (no second answer).
pub mod KindLaws
pub mod HeaderLaws
pub mod JobsLaws
pub mod PlaceLaws
pub mod Unique
