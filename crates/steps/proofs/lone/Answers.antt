-- `steps::lone` meets its contract: item by item.
use borrow.Author.Tests.{ne_eqb}
use Rattle.states.specs.Steps.{lone_of}
use Rattle.steps.proofs.lone.Goals as goal

pub returns-then-st-eq-SENDER : goal.returns-then-st-eq-SENDER
unfolding lone_of
returns-then-st-eq-SENDER c = rw (c.low32.ensures, c.if-st-eq-SENDER.true)

pub returns-then-st-eq-BLOCK : goal.returns-then-st-eq-BLOCK
unfolding lone_of
returns-then-st-eq-BLOCK c = rw (c.start_in.ensures, c.low32-then-st-eq-BLOCK.ensures, c.if-st-eq-BLOCK.true)

pub returns-then-st-eq-FIELDS : goal.returns-then-st-eq-FIELDS
unfolding lone_of
returns-then-st-eq-FIELDS c = rw (c.fields_in.ensures, c.length_of.ensures.value, c.first_byte.ensures, c.if-st-eq-FIELDS.true)

pub returns-then-k-eq0 : goal.returns-then-k-eq0
unfolding lone_of
returns-then-k-eq0 c = rw (c.if-k-eq0.true, c.if-st-eq-TIME.true)

pub returns-then-st-eq-TIME : goal.returns-then-st-eq-TIME
unfolding lone_of
returns-then-st-eq-TIME c = rw (c.low32-then-st-eq-TIME.ensures, ne_eqb _ _ c.if-k-eq0.false, c.if-st-eq-TIME.true)

pub returns-then-st-eq-ECHO : goal.returns-then-st-eq-ECHO
unfolding lone_of
returns-then-st-eq-ECHO c = rw (c.low32-then-st-eq-ECHO.ensures, c.high32.ensures, c.if-st-eq-ECHO.true)

pub returns-then-st-eq-CLOCK : goal.returns-then-st-eq-CLOCK
unfolding lone_of
returns-then-st-eq-CLOCK c = rw c.if-st-eq-CLOCK.true

pub returns-then-st-eq-HOPS : goal.returns-then-st-eq-HOPS
unfolding lone_of
returns-then-st-eq-HOPS c = rw (c.summary_in.ensures, c.if-st-eq-HOPS.true)

pub returns : goal.returns
unfolding lone_of
returns c = rw (
  ne_eqb _ _ c.if-st-eq-SENDER.false,
  ne_eqb _ _ c.if-st-eq-BLOCK.false,
  ne_eqb _ _ c.if-st-eq-FIELDS.false,
  ne_eqb _ _ c.if-st-eq-TIME.false,
  ne_eqb _ _ c.if-st-eq-ECHO.false,
  ne_eqb _ _ c.if-st-eq-CLOCK.false,
  ne_eqb _ _ c.if-st-eq-HOPS.false,
)
