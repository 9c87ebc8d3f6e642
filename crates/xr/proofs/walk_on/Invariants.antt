-- `xr::walk_on` meets its contract: block n is where it stands, and each need cites a law of one turn.
use Prim.Native.Nat.{◌+◌}
use mathlib.Core.Path.{◌≡◌}
use Rattle.xr.specs.Walks.{Walking}
use Rattle.xr.proofs.walk_on.Given as goal

abbrev pub invariant-loop-left : goal.invariant-loop-left
invariant-loop-left l =
    Walking l.s l.stop l.at l.n × (l.at + l.left ≡ l.stop)

abbrev pub decreases-loop-left : goal.decreases-loop-left
decreases-loop-left l =
    l.left
