-- ChunkLaws (a word's kind, places and values), OnesLaws (counts of the places of value one).
pub mod ChunkLaws
pub mod OnesLaws
pub mod Unique
