-- Whole: what the reading questions answer of a whole packet, as events. Run: what a state and the bytes behind it
-- show, on the way to def_portions' course.
pub mod Whole
pub mod Run
