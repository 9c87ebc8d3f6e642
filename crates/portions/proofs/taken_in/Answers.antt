-- `portions::taken_in` meets its contract.
use mathlib.Core.Path.{refl}
use native.Mathlib.Omega.{arith}
use borrow.Author.Tests.{ne_eqb}
use Rattle.states.specs.Call.{taken_in}
use Rattle.portions.proofs.taken_in.Goals as goal

pub returns-then-st-eq-HEAD : goal.returns-then-st-eq-HEAD
unfolding taken_in
returns-then-st-eq-HEAD c = rw (c.saturating_sub.ensures, c.if-st-eq-HEAD.true) (refl, omega arith)

pub returns : goal.returns
unfolding taken_in
returns c = rw (c.saturating_sub-4.ensures, c.saturating_sub-3.ensures, c.saturating_sub-2.ensures, ne_eqb _ _ c.if-st-eq-HEAD.false)
    (refl, omega arith)
