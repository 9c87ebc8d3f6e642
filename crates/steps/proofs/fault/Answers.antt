-- `steps::fault` meets its contract: the refusal of a complete item, by its kind.
use borrow.Author.Tests.{ne_eqb}
use Rattle.states.specs.Steps.{fault_of}
use Rattle.steps.proofs.FaultLaws.{word-rule}
use Rattle.steps.proofs.fault.Goals as goal

pub returns-then-st-ne0 : goal.returns-then-st-ne0
unfolding fault_of
returns-then-st-ne0 c = rw (ne_eqb _ _ c.if-st-ne0.true)

pub returns-then-st-eq-HEAD : goal.returns-then-st-eq-HEAD
unfolding fault_of
returns-then-st-eq-HEAD c = rw (c.head_fault.ensures, c.low32.ensures, c.if-st-ne0.false, c.if-st-eq-HEAD.true)

pub returns-then-st-eq-BLOCK : goal.returns-then-st-eq-BLOCK
unfolding fault_of
returns-then-st-eq-BLOCK c = rw (c.block_fault.ensures, c.low32-then-st-eq-BLOCK.ensures, c.if-st-ne0.false, c.if-st-eq-BLOCK.true)

pub returns-then-st-eq-WORD : goal.returns-then-st-eq-WORD
unfolding fault_of
returns-then-st-eq-WORD c = rw (
  c.rule.ensures,
  c.if-st-ne0.false,
  ne_eqb _ _ c.if-st-eq-HEAD.false,
  ne_eqb _ _ c.if-st-eq-BLOCK.false,
  c.if-st-eq-WORD.true,
) (word-rule _ _ _ _ c.length_of-l.ensures.value c.low16.ensures)

pub returns : goal.returns
unfolding fault_of
returns c = rw (
  c.if-st-ne0.false,
  ne_eqb _ _ c.if-st-eq-HEAD.false,
  ne_eqb _ _ c.if-st-eq-BLOCK.false,
  ne_eqb _ _ c.if-st-eq-WORD.false,
)
