-- ParsedLaws (a parsed packet as numbers), Unique (no second answer).
pub mod ParsedLaws
pub mod Unique
