-- `portions::count` meets its contract: what was counted so far and what is still to come make up the whole.
use Prim.Native.Nat.{◌-◌}
use lib.ListN.{length}
use Rattle.portions.proofs.StoreTurn.{Counted}
use Rattle.portions.proofs.count.Given as goal

abbrev pub invariant-loop-at : goal.invariant-loop-at
invariant-loop-at l =
    Counted l.initial.s l.x l.s l.at l.n

abbrev pub decreases-loop-at : goal.decreases-loop-at
decreases-loop-at l =
    length l.x - l.at
