-- Read in this order: Numbers (RULES' number for each refusal), Answers (what a listing call answers and
-- leaves).
pub mod Numbers
pub mod Answers
