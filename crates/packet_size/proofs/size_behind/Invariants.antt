-- `packet_size::size_behind` meets its contract: each need cites a law of one turn.
use Prim.Native.Nat.{◌-◌}
use lib.ListN.{length, drop}
use Rattle.jobs.specs.Places.{jobs_behind}
use Rattle.packet_size.proofs.SizeTurn.{Sizing}
use Rattle.packet_size.proofs.size_behind.Given as goal

abbrev pub invariant-loop-at : goal.invariant-loop-at
invariant-loop-at l =
    Sizing l.layout l.list l.start (jobs_behind (drop l.from l.list)) l.at l.blocks l.bytes

abbrev pub decreases-loop-at : goal.decreases-loop-at
decreases-loop-at l =
    length l.list - l.at
