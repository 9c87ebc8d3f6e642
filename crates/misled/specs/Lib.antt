-- Misled: when careful writing refuses a record as 15, as a question about the record and the bytes behind its block.
-- Known: what the functions on the way know.
pub mod Misled
pub mod Known
