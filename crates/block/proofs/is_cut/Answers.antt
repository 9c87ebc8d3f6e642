-- `block::is_cut` meets its contract: 8.
use Rattle.block.proofs.BlockLaws.{cut-standard, cut-chunks, cut-times}
use Rattle.block.proofs.is_cut.Goals as goal

pub returns-in-Standard : goal.returns-in-Standard
returns-in-Standard c = let a = c.args in cut-standard a.r a.g a.left c.in-Standard.is

pub returns-in-Chunks : goal.returns-in-Chunks
returns-in-Chunks c = let a = c.args in
    cut-chunks a.r a.g a.left c.in-Chunks.field-0 c.in-Crate.is c.in-Chunks.is

pub returns-in-Times : goal.returns-in-Times
returns-in-Times c = let a = c.args in
    cut-times a.r a.g a.left c.in-Crate.is c.in-Times.is
