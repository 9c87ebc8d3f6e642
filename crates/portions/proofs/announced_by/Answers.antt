-- `portions::announced_by` meets its contract: known before, or with the header's last byte.
use borrow.Author.Tests.{eq-eqb, ne_eqb, le-leb, lt-leb}
use Rattle.states.specs.Call.{announced_by}
use Rattle.portions.proofs.announced_by.Goals as goal

pub returns-then-st-ne-HEAD : goal.returns-then-st-ne-HEAD
unfolding announced_by
returns-then-st-ne-HEAD c = rw (ne_eqb _ _ c.if-st-ne-HEAD.true)

pub returns-then-x-m : goal.returns-then-x-m
unfolding announced_by
returns-then-x-m c = rw (eq-eqb _ _ c.if-st-ne-HEAD.false, lt-leb _ _ c.if-x-m.true)

pub returns : goal.returns
unfolding announced_by
returns c = rw (c.good_length.ensures, c.low32.ensures, c.hold-s.ensures, c.if-st-ne-HEAD.false, le-leb _ _ c.if-x-m.false)
