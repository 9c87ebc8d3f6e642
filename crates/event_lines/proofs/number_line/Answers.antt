-- `event_lines::number_line` meets its contract: `number N`. Assumes nothing.
use Rattle.print.proofs.AddedLaws.{and_then}
use Rattle.def_dump.specs.EventLines.{event_line}
use Rattle.event_lines.proofs.number_line.Goals as goal

pub returns : goal.returns
unfolding event_line
returns c = and_then c.labelled-n.ensures c.line_end.ensures
