-- AskedLaws: what a reading is asked, and each way in which it is refused.
pub mod AskedLaws
pub mod Unique
