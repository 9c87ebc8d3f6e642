-- `event_lines::ranged_line` meets its contract: `start TYPE L ssrc S begin B end E thinning T`. Assumes nothing.
use Rattle.print.proofs.AddedLaws.{and_then}
use Rattle.def_dump.specs.EventLines.{event_line}
use Rattle.event_lines.proofs.ranged_line.Goals as goal

pub returns : goal.returns
unfolding event_line
returns c = and_then (and_then c.two-n.ensures c.byte-m.ensures) c.fields_line.ensures
