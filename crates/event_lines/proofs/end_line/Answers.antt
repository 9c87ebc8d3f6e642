-- `event_lines::end_line` meets its contract: `end`. Assumes nothing.
use Rattle.print.proofs.AddedLaws.{and_then}
use Rattle.def_dump.specs.EventLines.{event_line}
use Rattle.event_lines.proofs.end_line.Goals as goal

pub returns : goal.returns
unfolding event_line
returns c = and_then c.text-n.ensures c.line_end.ensures
