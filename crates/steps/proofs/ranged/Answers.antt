-- `steps::ranged` meets its contract.
use Rattle.states.specs.Steps.{ranged}
use Rattle.steps.proofs.ranged.Goals as goal

pub returns : goal.returns
unfolding ranged
returns c = cc
