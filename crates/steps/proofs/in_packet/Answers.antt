-- `steps::in_packet` meets its contract.
use Rattle.states.specs.Steps.{in_packet}
use Rattle.steps.proofs.in_packet.Goals as goal

pub returns : goal.returns
unfolding in_packet
returns c = cc
