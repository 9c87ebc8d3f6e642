-- `portions::put_end` meets its contract: the packet's end, or nothing.
use native.Mathlib.Omega.{arith}
use borrow.Author.Tests.{eq-eqb, ne_eqb}
use Rattle.event_lists.proofs.LaidLaws.{laid_none}
use Rattle.portions.proofs.put_end.Goals as goal

pub put-requires : goal.put-requires
put-requires c = let k = rw (eq-eqb _ _ c.if-st-eq-OVER.true) at c.requires in
    omega (arith, k)

pub returns-then-st-eq-OVER : goal.returns-then-st-eq-OVER
returns-then-st-eq-OVER c = rw (eq-eqb _ _ c.if-st-eq-OVER.true) c.put.ensures

pub returns : goal.returns
returns c = rw (ne_eqb _ _ c.if-st-eq-OVER.false) laid_none
