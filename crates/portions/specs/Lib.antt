-- What the contracts of the turns say: Turn (one turn of the loops over some bytes).
pub mod Turn
