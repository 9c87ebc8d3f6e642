-- Job lists and writing (RULES, "Job lists and writing").
-- Read in this order: Shown (all that a block shows), Jobs (what a record is, the first bad one, what a record asks),
-- Layout (the packet of a
-- list), Writing (12, 14, 15, 11).
pub mod Shown
pub mod Jobs
pub mod Layout
pub mod Writing
