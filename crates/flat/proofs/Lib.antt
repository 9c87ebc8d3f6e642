-- FlatLaws (a flat answer's contract from the call's that it copies), BlockLaws (what stands at a place of a packet),
-- Worked (worked facts of what is laid out), Unique (no second answer).
pub mod FlatLaws
pub mod BlockLaws
pub mod Worked
pub mod Unique
