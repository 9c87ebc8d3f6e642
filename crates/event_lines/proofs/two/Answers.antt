-- `event_lines::two` meets its contract: a word and two numbers. Assumes nothing.
use Rattle.print.proofs.AddedLaws.{and_then}
use Rattle.event_lines.proofs.two.Goals as goal

pub returns : goal.returns
returns c = and_then c.labelled-n.ensures c.number.ensures
