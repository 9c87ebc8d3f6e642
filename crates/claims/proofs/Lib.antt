-- Taken (what a listing call left), Cursor (the number cursor by calls), Grid (thinning from zero), Walk (the reader
-- by moves), Answered (what a block shows, by questions), RoundTrip (a written packet read back), Absent (a summary's
-- absent numbers), FitLaws (a block that is fit to be read), AsStandard (the crate's answers beside the standard's),
-- Careful (a carefully written packet), Marks (words from marks, and a report), NoLostRun (no run of no length is
-- made), Portions (a packet in portions), Text (the text that is printed), Twelve (the examples, passed on).
pub mod Taken
pub mod Cursor
pub mod Grid
pub mod Walk
pub mod Answered
pub mod RoundTrip
pub mod Absent
pub mod FitLaws
pub mod AsStandard
pub mod Careful
pub mod Marks
pub mod NoLostRun
pub mod Portions
pub mod Text
pub mod Twelve
