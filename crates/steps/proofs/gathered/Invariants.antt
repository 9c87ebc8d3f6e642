-- `steps::gathered` meets its contract: the bytes that are left make the number that all of them make.
use Rattle.std.proofs.Common.{◌≡◌, drop}
use Rattle.states.specs.Steps.{held_over}
use Rattle.steps.proofs.gathered.Given as goal

abbrev pub invariant-loop-b : goal.invariant-loop-b
invariant-loop-b l = held_over l.item l.h (drop l.b-index l.b-items) ≡ held_over l.item l.held l.b-items
