-- `summary_lines::four` meets its contract: four numbers.
use Rattle.print.proofs.AddedLaws.{and_then}
use Rattle.summary_lines.proofs.four.Goals as goal

pub returns : goal.returns
returns c = and_then (and_then (and_then c.number-a.ensures c.number-b.ensures) c.number-c.ensures)
    c.number.ensures
