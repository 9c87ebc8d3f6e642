-- `event_lines::entry_line` meets its contract: `entry S L D`. Assumes nothing.
use Rattle.print.proofs.AddedLaws.{and_then}
use Rattle.def_dump.specs.EventLines.{event_line}
use Rattle.event_lines.proofs.entry_line.Goals as goal

pub returns : goal.returns
unfolding event_line
returns c = and_then (and_then c.two-n.ensures c.number-m.ensures) c.line_end.ensures
