-- `records::kind_in` meets its contract.
use mathlib.Core.Path.{sym, ◌∙◌}
use Rattle.def_wire.specs.Block.{kind_of, ranged_of, rle_of}
use Rattle.records.proofs.KnownLaws.{known-other}
use Rattle.records.proofs.kind_in.Goals as goal

pub returns-then-t-eq-BLOCK_TYPE : goal.returns-then-t-eq-BLOCK_TYPE
unfolding kind_of ranged_of rle_of
returns-then-t-eq-BLOCK_TYPE c = rw (c.in-Crate.is, c.if-t-eq-BLOCK_TYPE.true)

pub returns-in-Standard : goal.returns-in-Standard
returns-in-Standard c = rw c.in-Standard.is c.kind_of-kind.ensures

pub returns-else-t-eq-BLOCK_TYPE : goal.returns-else-t-eq-BLOCK_TYPE
returns-else-t-eq-BLOCK_TYPE c = rw c.in-Crate.is (c.kind_of-kind.ensures ∙ sym (known-other _ c.if-t-eq-BLOCK_TYPE.false))
