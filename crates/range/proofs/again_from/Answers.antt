-- `range::again_from` meets its contract: by the test of start and end. Assumes nothing.
use Rattle.std.proofs.Common.{le-ltb, lt-ltb}
use Rattle.range.proofs.again_from.Goals as goal

pub returns-then-start-end : goal.returns-then-start-end
returns-then-start-end c = simp (lt-ltb _ _ c.if-start-end.true)

pub returns-else-start-end : goal.returns-else-start-end
returns-else-start-end c = simp (le-ltb _ _ c.if-start-end.false)
