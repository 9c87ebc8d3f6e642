-- LaidLaws (events laid into four lists), PartsLaws (events read back from them).
pub mod LaidLaws
pub mod PartsLaws
pub mod Unique
