-- `steps::summed_on` meets its contract: by how many bytes are left.
use borrow.Author.Tests.{eq-eqb, ne_eqb}
use Rattle.states.specs.Steps.{summed_on}
use Rattle.steps.proofs.summed_on.Goals as goal

pub returns-then-st-eq4 : goal.returns-then-st-eq4
unfolding summed_on
returns-then-st-eq4 c = rw (c.opened.ensures, eq-eqb _ _ c.if-st-eq4.true, c.summing-k.ensures)

pub returns : goal.returns
unfolding summed_on
returns c = rw (c.opened-2.ensures, ne_eqb _ _ c.if-st-eq4.false, c.summing-k.ensures)
