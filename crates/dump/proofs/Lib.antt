-- ListLaws (a list that was filled, and its line), DumpLaws (blocks, readings and the whole).
pub mod ListLaws
pub mod DumpLaws
pub mod Unique
