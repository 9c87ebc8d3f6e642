-- `range::size_of` meets its contract: by the test of begin and end. Assumes nothing.
use Rattle.std.proofs.Common.{eq-eqb, ne_eqb}
use Rattle.range.proofs.size_of.Goals as goal

pub returns-then-begin-end : goal.returns-then-begin-end
returns-then-begin-end c = simp (eq-eqb _ _ c.if-begin-end.true)

pub returns : goal.returns
returns c = simp (ne_eqb _ _ c.if-begin-end.false)
