-- `dump::one_block` meets its contract: a block's line, and what it shows.
use Rattle.print.proofs.AddedLaws.{and_then, reads}
use Rattle.dump.proofs.DumpLaws.{kind-shown, kind-bare}
use Rattle.dump.proofs.one_block.Goals as goal

pub returns-in-Some : goal.returns-in-Some
returns-in-Some c = reads
    (kind-shown _ _ _ _ _ _ _ c.header_data-h.ensures c.block_type.ensures c.block_length.ensures.0
    c.block_type-2.ensures _ _ c.in-Some.is c.kind_in.ensures)
    (and_then c.block_line-n.ensures c.contents_or.ensures)

pub returns-in-None : goal.returns-in-None
returns-in-None c = reads
    (kind-bare _ _ _ _ _ _ _ c.header_data-h.ensures c.block_type.ensures c.block_length.ensures.0
    c.block_type-2.ensures _ c.in-None.is c.kind_in.ensures)
    c.block_line-n.ensures
