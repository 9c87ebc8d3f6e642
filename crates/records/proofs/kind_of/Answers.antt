-- `records::kind_of` meets its contract.
use Rattle.def_wire.specs.Block.{kind_of}
use borrow.Author.Tests.{eq-eqb, ne_eqb}
use mathlib.Core.Path.{sym, ◌∙◌}
use Rattle.records.proofs.kind_of.Goals as goal

pub returns-then-t-eq-BLOCK_TYPE : goal.returns-then-t-eq-BLOCK_TYPE
unfolding kind_of
returns-then-t-eq-BLOCK_TYPE c = rw (sym c.ranged_of.ensures ∙ c.in-None.is, eq-eqb _ _ c.if-t-eq-BLOCK_TYPE.true)

pub returns-then-t-eq-BLOCK_TYPE-2 : goal.returns-then-t-eq-BLOCK_TYPE-2
unfolding kind_of
returns-then-t-eq-BLOCK_TYPE-2 c = rw (
  sym c.ranged_of.ensures ∙ c.in-None.is,
  ne_eqb _ _ c.if-t-eq-BLOCK_TYPE.false,
  eq-eqb _ _ c.if-t-eq-BLOCK_TYPE-2.true,
)

pub returns-then-t-eq-BLOCK_TYPE-3 : goal.returns-then-t-eq-BLOCK_TYPE-3
unfolding kind_of
returns-then-t-eq-BLOCK_TYPE-3 c = rw (
  sym c.ranged_of.ensures ∙ c.in-None.is,
  ne_eqb _ _ c.if-t-eq-BLOCK_TYPE.false,
  ne_eqb _ _ c.if-t-eq-BLOCK_TYPE-2.false,
  eq-eqb _ _ c.if-t-eq-BLOCK_TYPE-3.true,
)

pub returns-in-Some : goal.returns-in-Some
unfolding kind_of
returns-in-Some c = rw (sym c.ranged_of.ensures ∙ c.in-Some.is)

pub returns-else-t-eq-BLOCK_TYPE-3 : goal.returns-else-t-eq-BLOCK_TYPE-3
unfolding kind_of
returns-else-t-eq-BLOCK_TYPE-3 c = rw (
  sym c.ranged_of.ensures ∙ c.in-None.is,
  ne_eqb _ _ c.if-t-eq-BLOCK_TYPE.false,
  ne_eqb _ _ c.if-t-eq-BLOCK_TYPE-2.false,
  ne_eqb _ _ c.if-t-eq-BLOCK_TYPE-3.false,
)
