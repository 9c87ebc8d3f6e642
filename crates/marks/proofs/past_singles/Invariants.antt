-- `marks::past_singles` meets its contract: mark by mark.
use Rattle.marks.specs.Runs.{Same}
use Rattle.marks.proofs.past_singles.Given as goal

abbrev pub invariant-loop-i : goal.invariant-loop-i
invariant-loop-i l = Same l.marks l.m l.from l.i
