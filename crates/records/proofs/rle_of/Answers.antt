-- `records::rle_of` meets its contract: the kind of a type number, where it has one.
use Rattle.def_wire.specs.Block.{rle_of}
use borrow.Author.Tests.{eq-eqb, ne_eqb}
use Rattle.records.proofs.rle_of.Goals as goal

pub returns-then-t-eq-BLOCK_TYPE : goal.returns-then-t-eq-BLOCK_TYPE
unfolding rle_of
returns-then-t-eq-BLOCK_TYPE c = rw (eq-eqb _ _ c.if-t-eq-BLOCK_TYPE.true)

pub returns-then-t-eq-BLOCK_TYPE-2 : goal.returns-then-t-eq-BLOCK_TYPE-2
unfolding rle_of
returns-then-t-eq-BLOCK_TYPE-2 c = rw (ne_eqb _ _ c.if-t-eq-BLOCK_TYPE.false, eq-eqb _ _ c.if-t-eq-BLOCK_TYPE-2.true)

pub returns : goal.returns
unfolding rle_of
returns c = rw (ne_eqb _ _ c.if-t-eq-BLOCK_TYPE.false, ne_eqb _ _ c.if-t-eq-BLOCK_TYPE-2.false)
