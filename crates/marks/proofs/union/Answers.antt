-- `marks::union` meets its contract: the bits of each byte in turn.
use Rattle.marks.proofs.UnionLaws.{union_more}
use Rattle.marks.proofs.union.Goals as goal

pub loop-mark-preserved : goal.loop-mark-preserved
loop-mark-preserved c = union_more c.args.marks.now c.loop-mark.mark-index c.loop-mark.seen c.loop-mark.invariant
