-- `event_lines::event_line` meets its contract: by the kind of event. Assumes nothing.
use mathlib.Core.Path.{sym, ap}
use Rattle.print.proofs.AddedLaws.{reads}
use Rattle.def_dump.specs.EventLines.{event_line}
use Rattle.event_lines.proofs.event_line.Goals as goal

pub returns-in-Header : goal.returns-in-Header
unfolding event_line
returns-in-Header c = reads (ap event_line (sym c.in-Header.is)) c.two_line.ensures

pub returns-in-Start : goal.returns-in-Start
unfolding event_line
returns-in-Start c = reads (ap event_line (sym c.in-Start.is)) c.two_line-in-Start.ensures

pub returns-in-Ranged : goal.returns-in-Ranged
returns-in-Ranged c = reads (ap event_line (sym c.in-Ranged.is)) c.ranged_line.ensures

pub returns-in-Number : goal.returns-in-Number
returns-in-Number c = reads (ap event_line (sym c.in-Number.is)) c.number_line.ensures

pub returns-in-Pair : goal.returns-in-Pair
unfolding event_line
returns-in-Pair c = reads (ap event_line (sym c.in-Pair.is))
    c.two_line-in-Pair.ensures

pub returns-in-Entry : goal.returns-in-Entry
returns-in-Entry c = reads (ap event_line (sym c.in-Entry.is)) c.entry_line.ensures

pub returns-in-Time : goal.returns-in-Time
unfolding event_line
returns-in-Time c = reads (ap event_line (sym c.in-Time.is)) c.time_line.ensures

pub returns-in-Summed : goal.returns-in-Summed
returns-in-Summed c = reads (ap event_line (sym c.in-Summed.is)) c.summary_line.ensures

pub returns-in-End : goal.returns-in-End
returns-in-End c = reads (ap event_line (sym c.in-End.is)) c.end_line.ensures
