-- Judged: a record judged and sized at once, and what a good body of kinds 1 to 3 has.
pub mod Judged
