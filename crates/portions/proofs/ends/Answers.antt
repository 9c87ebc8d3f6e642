-- `portions::ends` meets its contract.
use borrow.Author.Tests.{eq-eqb, ne_eqb}
use Rattle.portions.proofs.ends.Goals as goal

pub returns-then-st-ne-OVER : goal.returns-then-st-ne-OVER
returns-then-st-ne-OVER c = rw (ne_eqb _ _ c.if-st-ne-OVER.true)

pub returns : goal.returns
returns c = rw (eq-eqb _ _ c.if-st-ne-OVER.false)
