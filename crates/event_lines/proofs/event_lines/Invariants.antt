-- `event_lines::event_lines` meets its contract: the lines of the events from each index on. Assumes nothing.
use Rattle.print.proofs.AddedLaws.{Adding}
use Rattle.def_dump.specs.EventLines.{event_lines}
use Rattle.event_lines.proofs.EventLineLaws.{events_from}
use Rattle.event_lines.proofs.event_lines.Given as goal

abbrev pub invariant-loop-i : goal.invariant-loop-i
invariant-loop-i l =
    Adding l.initial.buf l.at (event_lines (events_from l.count l.tags l.numbers l.values l.sums 0)) l.buf l.to
    (event_lines (events_from l.count l.tags l.numbers l.values l.sums l.i))
