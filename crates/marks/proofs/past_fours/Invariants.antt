-- `marks::past_fours` meets its contract: four marks at a time.
use Prim.Native.Nat.{◌+◌, ◌*◌}
use mathlib.Core.Path.{◌≡◌}
use Rattle.marks.specs.Runs.{Same}
use Rattle.marks.proofs.past_fours.Given as goal

abbrev pub invariant-loop-k : goal.invariant-loop-k
invariant-loop-k l =
    Same l.marks l.m l.from (l.from + 4 * l.k) × (l.all ≡ l.m * 16843009)
