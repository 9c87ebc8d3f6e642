-- `print::triple` meets its contract: three numbers.
use Rattle.print.proofs.AddedLaws.{and_then, reads}
use Rattle.print.proofs.ListLaws.{triple-spaced}
use Rattle.print.proofs.triple.Goals as goal

pub returns : goal.returns
returns c = reads (triple-spaced c.from.ensures c.from-2.ensures c.from-3.ensures)
    (and_then c.number-n.ensures (and_then c.number-m.ensures c.number.ensures))
