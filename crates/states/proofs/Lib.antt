-- RunLaws (some bytes at once), Worked (the steps by computation), Summaries (a summary's).
pub mod RunLaws
pub mod Worked
pub mod Summaries
