-- ScanLaws (words from an index on, in either order of their bytes), Unique (no second answer).
pub mod ScanLaws
pub mod Unique
