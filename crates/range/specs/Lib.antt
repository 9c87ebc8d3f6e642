-- What the functions of this crate compute on their way to the definitions' lists. Read in this order: Grid (a block's
-- range beside the crate's), Steps (numbers one step apart), Inside (how many positions are inside), Failing (where the
-- crate's test fails first).
pub mod Grid
pub mod Steps
pub mod Inside
pub mod Failing
