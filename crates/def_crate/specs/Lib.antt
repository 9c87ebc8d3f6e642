-- The crate reading (RULES, "Crate reading"): what the xr module of rtcp-types 0.3.0 lists. Read it beside the
-- Rust.
pub mod Sequence
pub mod Crate
