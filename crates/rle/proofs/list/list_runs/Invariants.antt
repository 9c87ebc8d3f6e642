-- `rle::list::list_runs` meets its contract: its invariant is `Ran`, and needs cite laws of one turn. Assumes nothing.
use Prim.Native.Nat.{◌-◌}
use lib.ListN.{length}
use Rattle.rle.specs.Runs.{Ran}
use Rattle.rle.proofs.list.list_runs.Given as goal

abbrev pub invariant-loop-at : goal.invariant-loop-at
invariant-loop-at l =
    Ran l.end l.thinning l.bytes l.from l.begin l.initial.out l.stored l.at l.start l.first l.out l.n

abbrev pub decreases-loop-at : goal.decreases-loop-at
decreases-loop-at l =
    length l.bytes - l.at
