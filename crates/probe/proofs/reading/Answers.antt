-- `probe::reading` meets its contract: which reading a payload's first byte asks.
use Rattle.probe.proofs.KindLaws.{reading-standard, reading-crate}
use Rattle.probe.proofs.reading.Goals as goal

pub returns-then-byte_at-eq0 : goal.returns-then-byte_at-eq0
returns-then-byte_at-eq0 c = reading-standard c.args.p.now _ c.byte_at.ensures c.if-byte_at-eq0.true

pub returns-else-byte_at-eq0 : goal.returns-else-byte_at-eq0
returns-else-byte_at-eq0 c = reading-crate c.args.p.now _ c.byte_at.ensures c.if-byte_at-eq0.false
