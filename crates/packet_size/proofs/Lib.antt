-- FirstLaws (the record that stands first), LayoutLaws (how long a packet is), SizeLaws (a packet's size, or 12, then
-- 14), SizeTurn (one turn of the pass), Unique (no second answer).
pub mod FirstLaws
pub mod LayoutLaws
pub mod SizeLaws
pub mod SizeTurn
pub mod Unique
