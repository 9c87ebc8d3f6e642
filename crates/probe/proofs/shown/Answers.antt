-- `probe::shown` meets its contract: a block's time or its fields, as the payload asks.
use Rattle.print.proofs.AddedLaws.{reads}
use Rattle.probe.proofs.KindLaws.{shown-time, shown-fields}
use Rattle.probe.proofs.shown.Goals as goal

pub returns-then-t-eq4 : goal.returns-then-t-eq4
returns-then-t-eq4 c = reads (shown-time c.args.p.now _ _ _ _ c.byte_at-t.ensures c.if-t-eq4.true
    c.reading.ensures c.behind.ensures c.number.ensures)
    c.time.ensures

pub returns : goal.returns
returns c = reads (shown-fields c.args.p.now _ _ _ _ c.byte_at-t.ensures c.if-t-eq4.false
    c.reading-2.ensures c.behind-2.ensures c.number-2.ensures)
    c.fields.ensures
