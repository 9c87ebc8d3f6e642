-- `ones::store_vector` meets its contract: what is still to be stored are the numbers of the ones left in v.
-- Assumes nothing.
use Rattle.std.proofs.Common.{◌^◌, ◌<◌, take}
use Rattle.def_standard.specs.Chunks.{values_in}
use Rattle.ones.specs.Along.{along}
use Rattle.ones.proofs.DigitLaws.{digits}
use Rattle.laws.proofs.Filling.{Storing}
use Rattle.ones.proofs.store_vector.Given as goal

abbrev pub invariant-loop-v : goal.invariant-loop-v
invariant-loop-v l =
    (l.v < 2 ^ l.room)
    × Storing l.initial.out l.at (along l.step l.first (take l.room (values_in l.w))) l.out (along l.step l.first (digits l.room l.v)) l.n

abbrev pub decreases-loop-v : goal.decreases-loop-v
decreases-loop-v l =
    l.v
