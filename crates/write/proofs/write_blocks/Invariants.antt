-- `write::write_blocks` meets its contract: each need cites a law of one turn.
use Prim.Native.Nat.{◌-◌}
use lib.ListN.{length, drop}
use Rattle.jobs.specs.Places.{jobs_behind}
use Rattle.write.proofs.BlocksTurn.{Writing}
use Rattle.write.proofs.write_blocks.Given as goal

abbrev pub invariant-loop-at : goal.invariant-loop-at
invariant-loop-at l =
    Writing l.layout l.list (jobs_behind (drop l.from l.list)) l.initial.out l.start l.out l.at l.n

abbrev pub decreases-loop-at : goal.decreases-loop-at
decreases-loop-at l =
    length l.list - l.at
