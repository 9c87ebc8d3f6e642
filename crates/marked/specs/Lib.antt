-- Marked: bytes that are marks.
pub mod Marked
