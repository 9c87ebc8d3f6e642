-- `frame::first_byte` meets its contract: bit P where there is padding.
use borrow.Author.Tests.{eq-eqb, ne_eqb}
use Rattle.frame.proofs.first_byte.Goals as goal

pub returns-then-padding-eq0 : goal.returns-then-padding-eq0
returns-then-padding-eq0 c = simp (eq-eqb _ _ c.if-padding-eq0.true)

pub returns-else-padding-eq0 : goal.returns-else-padding-eq0
returns-else-padding-eq0 c = simp (ne_eqb _ _ c.if-padding-eq0.false)
