-- BlockLaws (a block of each kind from its parts), JobLaws (a record's kind), Unique (no second answer).
pub mod BlockLaws
pub mod JobLaws
pub mod Unique
