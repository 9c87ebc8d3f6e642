-- Blocks: the parts of a block of each kind, beside def_jobs' layout.
pub mod Blocks
