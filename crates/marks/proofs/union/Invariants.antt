-- `marks::union` meets its contract: the bits of each byte in turn.
use Rattle.marks.proofs.UnionLaws.{Union}
use Rattle.marks.proofs.union.Given as goal

abbrev pub invariant-loop-mark : goal.invariant-loop-mark
invariant-loop-mark l = Union l.marks l.mark-index l.seen
