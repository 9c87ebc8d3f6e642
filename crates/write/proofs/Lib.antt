-- AheadLaws (good records as a loop passes them), BlocksTurn (one turn of the loop that writes the blocks), MisledTurn
-- (of the loop that looks for what misleads), PacketLaws (the packet around the blocks, and 12, 14, 15 before it),
-- Unique (no second answer).
pub mod AheadLaws
pub mod BlocksTurn
pub mod MisledTurn
pub mod PacketLaws
pub mod Unique
