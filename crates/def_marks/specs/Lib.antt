-- Chunk words from heard marks (RULES, "Chunk words from marks").
-- Read in this order: Marks (the words, 14 and 17), Report (the job list of a report on marks, the numbers heard).
pub mod Marks
pub mod Report
