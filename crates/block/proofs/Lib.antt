-- BlockLaws: each way in which a question about one block ends. Worked: the length alone, by computation.
pub mod BlockLaws
pub mod Worked
pub mod Unique
