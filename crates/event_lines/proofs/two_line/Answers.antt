-- `event_lines::two_line` meets its contract: a word, two numbers and a line end. Assumes nothing.
use Rattle.print.proofs.AddedLaws.{and_then}
use Rattle.event_lines.proofs.two_line.Goals as goal

pub returns : goal.returns
returns c = and_then c.two-n.ensures c.line_end.ensures
