-- `portions::past_end` meets its contract: 19.
use mathlib.Core.Path.{sym, ◌∙◌}
use borrow.Author.Tests.{eq-eqb, ne_eqb}
use Rattle.states.specs.Call.{past_of}
use Rattle.portions.proofs.past_end.Goals as goal

pub returns-then-announced-eq0 : goal.returns-then-announced-eq0
unfolding past_of
returns-then-announced-eq0 c = rw (eq-eqb _ _ c.if-st-eq-HEAD.true, eq-eqb _ _ (sym c.announced_by-announced.ensures ∙ c.if-announced-eq0.true))

pub returns-then-st-eq-HEAD : goal.returns-then-st-eq-HEAD
unfolding past_of
returns-then-st-eq-HEAD c = let n = rw c.announced_by-announced.ensures at c.if-announced-eq0.false in
    rw (eq-eqb _ _ c.if-st-eq-HEAD.true, ne_eqb _ _ n, c.past.ensures, c.announced_by-announced.ensures, c.taken_in.ensures.0)

pub returns : goal.returns
unfolding past_of
returns c = rw (ne_eqb _ _ c.if-st-eq-HEAD.false, c.past-2.ensures, c.announced_by-announced.ensures, c.taken_in.ensures.0)
