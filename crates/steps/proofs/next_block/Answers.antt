-- `steps::next_block` meets its contract: the next block, or the end.
use borrow.Author.Tests.{eq-eqb, ne_eqb}
use Rattle.states.specs.Steps.{next_block}
use Rattle.steps.proofs.next_block.Goals as goal

pub returns-then-behind-eq0 : goal.returns-then-behind-eq0
unfolding next_block
returns-then-behind-eq0 c = rw (eq-eqb _ _ c.if-behind-eq0.true, c.nothing.ensures)

pub returns : goal.returns
unfolding next_block
returns c = rw (ne_eqb _ _ c.if-behind-eq0.false, c.saturating_sub.ensures, c.nothing.ensures)
