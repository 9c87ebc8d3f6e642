-- `ones::stop_in_vector` meets its contract: the first failing one is among those left in v. Assumes nothing.
use Rattle.std.proofs.Common.{◌≡◌, ◌^◌, ◌<◌}
use Rattle.ones.specs.Stops.{stop_from, stop_at}
use Rattle.ones.proofs.DigitLaws.{digits}
use Rattle.ones.proofs.stop_in_vector.Given as goal

abbrev pub invariant-loop-v : goal.invariant-loop-v
invariant-loop-v l =
    (l.v < 2 ^ 15) × (stop_from l.start l.end l.thinning 0 (digits 15 l.v) ≡ stop_at l.start l.end l.thinning l.w)

abbrev pub decreases-loop-v : goal.decreases-loop-v
decreases-loop-v l =
    l.v
