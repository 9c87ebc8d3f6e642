-- `portions::count_some` meets its contract.
use mathlib.Core.Path.{ap, ◌∙◌}
use Rattle.states.specs.Steps.{settled_of}
use Rattle.portions.proofs.TurnLaws.{Taken, taken, some-counted}
use Rattle.portions.proofs.count_some.Goals as goal
use Rattle.portions.proofs.count_some.Goals.{After-min-m}

bytes : (m : After-min-m) → let a = m.args in Taken a.s a.x.now a.at m.min-m.result
bytes m =
    taken _ _ _ _ m.requires.0 m.requires.1 m.min-m.ensures

pub returns : goal.returns
returns c = some-counted (bytes (goal.at.returns c).After-min-m) c.settle-r.result (c.settle-r.ensures ∙ ap settled_of c.hold.ensures)
