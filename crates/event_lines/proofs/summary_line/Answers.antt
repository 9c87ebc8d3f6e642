-- `event_lines::summary_line` meets its contract: `summary ` and the four texts. Assumes nothing.
use Rattle.print.proofs.AddedLaws.{and_then}
use Rattle.def_dump.specs.EventLines.{event_line}
use Rattle.event_lines.proofs.summary_line.Goals as goal

pub returns : goal.returns
unfolding event_line
returns c = and_then (and_then c.text-n.ensures c.summary_parts-m.ensures) c.line_end.ensures
