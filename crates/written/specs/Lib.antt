-- Shows: what a written packet shows of the records that asked for it.
pub mod Shows
