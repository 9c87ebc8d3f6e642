-- `ones::store_run` meets its contract: what is still to be stored is the progression from the next number on.
-- Assumes nothing.
use Rattle.std.proofs.Common.{◌≡◌, ◌+◌, ◌-◌}
use Rattle.ones.specs.Along.{progression, past}
use Rattle.laws.proofs.Filling.{Storing}
use Rattle.ones.proofs.store_run.Given as goal

abbrev pub invariant-loop-n : goal.invariant-loop-n
invariant-loop-n l =
    (l.x ≡ past l.step l.first (l.n - l.at))
    × Storing l.initial.out l.at (progression l.step l.first l.count) l.out
    (progression l.step l.x (l.at + l.count - l.n)) l.n
