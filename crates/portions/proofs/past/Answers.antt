-- `portions::past` meets its contract.
use borrow.Author.Tests.{le-leb, lt-leb}
use Rattle.portions.proofs.past.Goals as goal

pub returns-then-given-announced : goal.returns-then-given-announced
returns-then-given-announced c = rw (le-leb _ _ c.if-given-announced.true)

pub returns : goal.returns
returns c = rw (lt-leb _ _ c.if-given-announced.false)
