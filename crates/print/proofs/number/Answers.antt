-- `print::number` meets its contract: a space and a number.
use Rattle.print.proofs.AddedLaws.{and_then}
use Rattle.print.proofs.number.Goals as goal

pub returns : goal.returns
returns c = and_then c.byte-n1.ensures
    c.decimal.ensures
