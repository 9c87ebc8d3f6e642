-- `print::labelled` meets its contract: a label, a space and a number.
use Rattle.print.proofs.AddedLaws.{and_then}
use Rattle.print.proofs.labelled.Goals as goal

pub returns : goal.returns
returns c = and_then c.text-n1.ensures
    c.number.ensures
