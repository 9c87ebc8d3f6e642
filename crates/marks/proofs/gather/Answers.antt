-- `marks::gather` meets its contract: neighbours side by side, twice.
use mathlib.Core.Path.{refl}
use Rattle.marks.specs.Gathered.{gathered}
use Rattle.marks.proofs.gather.Goals as goal

pub returns : goal.returns
unfolding gathered
returns c = refl
