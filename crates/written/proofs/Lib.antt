-- Lists (small laws of lists), WordsLaws (a body's words, times and entries as bytes), BlockLaws (one block of each
-- kind), RecordsLaws (the records of a packet that is written), JobLaws (the block of a record), WalkLaws (the walk
-- over blocks in a row), HeaderLaws (the packet's header), Shows (what is written shows what is asked).
pub mod Lists
pub mod WordsLaws
pub mod BlockLaws
pub mod RecordsLaws
pub mod JobLaws
pub mod WalkLaws
pub mod HeaderLaws
pub mod Shows
