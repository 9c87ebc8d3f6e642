-- `steps::passed` meets its contract: item by item.
use mathlib.Core.Path.{sym, ◌∙◌}
use borrow.Author.Tests.{ne_eqb}
use Rattle.states.specs.Steps.{passed}
use Rattle.steps.proofs.passed.Goals as goal

pub returns-then-st-eq-HEAD : goal.returns-then-st-eq-HEAD
unfolding passed
returns-then-st-eq-HEAD c = rw (c.in_packet.ensures, c.low32.ensures, c.if-st-eq-HEAD.true)

pub returns-then-st-eq-SENDER : goal.returns-then-st-eq-SENDER
unfolding passed
returns-then-st-eq-SENDER c = rw (c.next_block.ensures, c.if-st-eq-SENDER.true)

pub returns-then-st-eq-BLOCK : goal.returns-then-st-eq-BLOCK
unfolding passed
returns-then-st-eq-BLOCK c = rw (c.in_block.ensures, c.low32-then-st-eq-BLOCK.ensures, c.if-st-eq-BLOCK.true)

pub returns-then-first_byte-eq3 : goal.returns-then-first_byte-eq3
unfolding passed
returns-then-first_byte-eq3 c = let t = sym c.first_byte.ensures ∙ c.if-first_byte-eq3.true in
    rw (c.opened.ensures, c.ranged.ensures, c.if-st-eq-FIELDS.true, t)

pub returns-then-st-eq-FIELDS : goal.returns-then-st-eq-FIELDS
unfolding passed
returns-then-st-eq-FIELDS c = let n = rw c.first_byte.ensures at c.if-first_byte-eq3.false in
    rw (c.opened-then-st-eq-FIELDS.ensures, c.ranged-then-st-eq-FIELDS.ensures, c.if-st-eq-FIELDS.true, ne_eqb _ _ n)

pub returns-then-st-eq-WORD : goal.returns-then-st-eq-WORD
unfolding passed
returns-then-st-eq-WORD c = rw (c.opened-then-st-eq-WORD.ensures, c.moved.ensures, c.covers-covered.ensures, c.low16.ensures, c.if-st-eq-WORD.true)

pub returns-then-st-eq-TIME : goal.returns-then-st-eq-TIME
unfolding passed
returns-then-st-eq-TIME c = rw (c.opened-then-st-eq-TIME.ensures, c.moved-then-st-eq-TIME.ensures, c.if-st-eq-TIME.true)

pub returns-then-st-eq-WHOSE : goal.returns-then-st-eq-WHOSE
unfolding passed
returns-then-st-eq-WHOSE c = rw (c.opened-then-st-eq-WHOSE.ensures, c.for_entry.ensures, c.low32-then-st-eq-WHOSE.ensures, c.if-st-eq-WHOSE.true)

pub returns-then-st-eq-ECHO : goal.returns-then-st-eq-ECHO
unfolding passed
returns-then-st-eq-ECHO c = rw (c.opened-then-st-eq-ECHO.ensures, c.for_entry-then-st-eq-ECHO.ensures, c.if-st-eq-ECHO.true)

pub returns-then-st-eq-SUMS : goal.returns-then-st-eq-SUMS
unfolding passed
returns-then-st-eq-SUMS c = rw (c.summed_on.ensures, c.if-st-eq-SUMS.true)

pub returns : goal.returns
unfolding passed
returns c = rw (
  c.opened-2.ensures,
  ne_eqb _ _ c.if-st-eq-HEAD.false,
  ne_eqb _ _ c.if-st-eq-SENDER.false,
  ne_eqb _ _ c.if-st-eq-BLOCK.false,
  ne_eqb _ _ c.if-st-eq-FIELDS.false,
  ne_eqb _ _ c.if-st-eq-WORD.false,
  ne_eqb _ _ c.if-st-eq-TIME.false,
  ne_eqb _ _ c.if-st-eq-WHOSE.false,
  ne_eqb _ _ c.if-st-eq-ECHO.false,
  ne_eqb _ _ c.if-st-eq-SUMS.false,
)
