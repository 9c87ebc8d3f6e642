-- `dump::dump` meets its contract: both readings, or the one line `refused 11`.
use Rattle.print.proofs.AddedLaws.{and_then, reads}
use Rattle.dump.proofs.DumpLaws.{dump-long, dump-both}
use Rattle.dump.proofs.dump.Goals as goal

pub returns-then-packet-gt-MAX_INPUT : goal.returns-then-packet-gt-MAX_INPUT
returns-then-packet-gt-MAX_INPUT c = reads (dump-long _ c.if-packet-gt-MAX_INPUT.true) c.text.ensures

pub returns : goal.returns
returns c = reads (dump-both _ c.if-packet-gt-MAX_INPUT.false)
    (and_then (and_then (and_then c.text-n.ensures c.one_reading-m.ensures) c.text-o.ensures)
    c.one_reading.ensures)
