-- `print::pair` meets its contract: a pair of numbers.
use Rattle.print.proofs.AddedLaws.{and_then, reads}
use Rattle.print.proofs.ListLaws.{pair-spaced}
use Rattle.print.proofs.pair.Goals as goal

pub returns : goal.returns
returns c = reads (pair-spaced c.from.ensures c.from-2.ensures) (and_then c.number-n.ensures c.number.ensures)
