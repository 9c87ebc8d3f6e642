-- `event_lines::event_lines` meets its contract: the lines of the events from each index on. Assumes nothing.
use mathlib.Core.Path.{ap}
use native.Mathlib.Omega.{arith}
use Rattle.print.proofs.AddedLaws.{start, next, done, reads}
use Rattle.def_dump.specs.EventLines.{event_line}
use Rattle.event_lines.proofs.EventLineLaws.{room_at, lines_next, lines_end}
use Rattle.event_lines.proofs.event_lines.Goals as goal

pub loop-i-init : goal.loop-i-init
loop-i-init c = start

pub loop-i-preserved : goal.loop-i-preserved
loop-i-preserved c = let a = c.args in
    let e = rw (c.min-3.ensures, c.min-2.ensures, c.min.ensures) at c.min-stop.ensures in
    next (lines_next a.count a.tags.now a.numbers.now a.values.now a.sums.now c.loop-i.i (omega arith))
    (reads (ap event_line c.event_at.ensures) c.event_line-to.ensures) c.loop-i.invariant

pub event_at-requires : goal.event_at-requires
event_at-requires c = let a = c.args in
    let e = rw (c.min-3.ensures, c.min-2.ensures, c.min.ensures) at c.min-stop.ensures in
    room_at a.count _ _ a.tags.now a.numbers.now a.values.now a.sums.now e c.loop-i-test.true

pub returns : goal.returns
returns c = let a = c.args in
    let e = rw (c.min-3.ensures, c.min-2.ensures, c.min.ensures) at c.min-stop.ensures in
    done (lines_end a.count a.tags.now a.numbers.now a.values.now a.sums.now c.loop-i.i (omega arith))
    c.loop-i.invariant
