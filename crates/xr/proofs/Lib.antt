-- HeaderLaws (refusals 1 to 5), WalkLaws (the walk, 6, places and views), WalkTurn (one turn of its loop),
-- HeaderBytes (what is taken from a block's
-- header bytes).
pub mod HeaderLaws
pub mod WalkLaws
pub mod WalkTurn
pub mod HeaderBytes
pub mod Unique
