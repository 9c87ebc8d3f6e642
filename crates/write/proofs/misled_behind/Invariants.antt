-- `write::misled_behind` meets its contract: each need cites a law of one turn.
use Prim.Native.Nat.{◌-◌}
use lib.ListN.{length, drop}
use Rattle.jobs.specs.Places.{jobs_behind}
use Rattle.write.proofs.MisledTurn.{Looking}
use Rattle.write.proofs.misled_behind.Given as goal

abbrev pub invariant-loop-at : goal.invariant-loop-at
invariant-loop-at l =
    Looking l.list (jobs_behind (drop l.from l.list)) l.at l.behind l.k

abbrev pub decreases-loop-at : goal.decreases-loop-at
decreases-loop-at l =
    length l.list - l.at
