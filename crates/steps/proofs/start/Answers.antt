-- `steps::start` meets its contract.
use Rattle.states.specs.Steps.{start}
use Rattle.steps.proofs.start.Goals as goal

pub returns : goal.returns
unfolding start
returns c = rw c.nothing.ensures
