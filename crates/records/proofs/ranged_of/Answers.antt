-- `records::ranged_of` meets its contract.
use Rattle.def_wire.specs.Block.{ranged_of}
use borrow.Author.Tests.{eq-eqb, ne_eqb}
use mathlib.Core.Path.{sym, ◌∙◌}
use Rattle.records.proofs.ranged_of.Goals as goal

pub returns-then-t-eq-BLOCK_TYPE : goal.returns-then-t-eq-BLOCK_TYPE
unfolding ranged_of
returns-then-t-eq-BLOCK_TYPE c = rw (sym c.rle_of.ensures ∙ c.in-None.is, eq-eqb _ _ c.if-t-eq-BLOCK_TYPE.true)

pub returns-in-Some : goal.returns-in-Some
unfolding ranged_of
returns-in-Some c = rw (sym c.rle_of.ensures ∙ c.in-Some.is)

pub returns-else-t-eq-BLOCK_TYPE : goal.returns-else-t-eq-BLOCK_TYPE
unfolding ranged_of
returns-else-t-eq-BLOCK_TYPE c = rw (sym c.rle_of.ensures ∙ c.in-None.is, ne_eqb _ _ c.if-t-eq-BLOCK_TYPE.false)
