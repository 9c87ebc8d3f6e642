-- `flat::refusal` meets its contract.
use Rattle.flat.specs.Flat.{flat_row}
use mathlib.Core.Path.{ap}
use Rattle.flat.proofs.refusal.Goals as goal

pub returns : goal.returns
returns c = ap flat_row c.number-n.ensures
