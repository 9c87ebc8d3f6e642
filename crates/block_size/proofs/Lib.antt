-- JudgeLaws (when a record is good), ZerosLaws (zero words behind words), LayoutLaws (how long a block is), JudgedLaws
-- (a record judged and sized at once), Unique (no second answer).
pub mod JudgeLaws
pub mod ZerosLaws
pub mod LayoutLaws
pub mod JudgedLaws
pub mod Unique
