-- `portions::store` meets its contract: what was stored so far and what is still to come make up the whole.
use Prim.Native.Nat.{◌-◌}
use lib.ListN.{length}
use Rattle.portions.proofs.StoreTurn.{Underway}
use Rattle.portions.proofs.store.Given as goal

abbrev pub invariant-loop-at : goal.invariant-loop-at
invariant-loop-at l =
    Underway l.initial.s l.x l.initial.tags l.initial.numbers l.initial.values l.initial.sums l.tags l.numbers l.values l.sums l.s l.at l.n

abbrev pub decreases-loop-at : goal.decreases-loop-at
decreases-loop-at l =
    length l.x - l.at
