-- `steps::opened` meets its contract: the next item, or what is behind the block.
use borrow.Author.Tests.{eq-eqb, ne_eqb}
use Rattle.states.specs.Steps.{opened}
use Rattle.steps.proofs.opened.Goals as goal

pub returns-then-rest-eq0 : goal.returns-then-rest-eq0
unfolding opened
returns-then-rest-eq0 c = rw (c.next_block.ensures, eq-eqb _ _ c.if-rest-eq0.true)

pub returns : goal.returns
unfolding opened
returns c = rw (ne_eqb _ _ c.if-rest-eq0.false, c.saturating_sub.ensures)
