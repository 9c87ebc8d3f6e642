-- `flat::reading` meets its contract.
use Rattle.flat.proofs.FlatLaws.{reading-standard, reading-crate}
use Rattle.flat.proofs.reading.Goals as goal

pub returns-then-r-eq0 : goal.returns-then-r-eq0
returns-then-r-eq0 c = reading-standard c.args.r c.if-r-eq0.true

pub returns-else-r-eq0 : goal.returns-else-r-eq0
returns-else-r-eq0 c = reading-crate c.args.r c.if-r-eq0.false
