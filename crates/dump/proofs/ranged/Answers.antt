-- `dump::ranged` meets its contract: fields, and numbers or pairs.
use Rattle.print.proofs.AddedLaws.{and_then, reads}
use Rattle.dump.proofs.DumpLaws.{ranged-chunks, ranged-times}
use Rattle.dump.proofs.ranged.Goals as goal

pub returns-in-Chunks : goal.returns-in-Chunks
returns-in-Chunks c = reads (ranged-chunks _ _ _ _ c.in-Chunks.is)
    (and_then c.fields_or-n.ensures c.numbers_or.ensures)

pub returns-in-Times : goal.returns-in-Times
returns-in-Times c = reads (ranged-times _ _ _ c.in-Times.is)
    (and_then c.fields_or-n.ensures c.pairs_or.ensures)
