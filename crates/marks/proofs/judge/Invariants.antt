-- `marks::judge` meets its contract: block by block, and in a block that has a bad byte, from its start on.
use Rattle.std.proofs.Common.{◌≡◌, ◌≤◌, length, drop}
use Rattle.std.specs.Slice.Iter.{chunks_rest, chunks_size}
use Rattle.def_marks.specs.Marks.{bad_from}
use Rattle.marks.proofs.judge.Given as goal

abbrev pub invariant-loop-block : goal.invariant-loop-block
invariant-loop-block l =
    (goal.iterator-loop-block).can_next l.block-iterator
    × (goal.iterator-loop-block).is_finite l.block-iterator
    × (chunks_size l.block-iterator ≡ 4096)
    × (chunks_rest l.block-iterator ≡ drop l.at l.marks)
    × (l.at ≤ length l.marks)
    × (bad_from 0 l.marks ≡ bad_from l.at (drop l.at l.marks))
