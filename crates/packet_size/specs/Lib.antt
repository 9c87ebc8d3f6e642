-- Sizes: how many bytes the packet of a job list has, or 12, then 14.
pub mod Sizes
