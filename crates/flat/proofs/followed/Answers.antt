-- `flat::followed` meets its contract.
use Rattle.flat.specs.Flat.{flat_followed, followed_row}
use mathlib.Core.Path.{ap}
use Rattle.flat.proofs.followed.Goals as goal

pub returns : goal.returns
unfolding flat_followed
returns c = ap (λ f. followed_row f c.args.r) c.checked-f.ensures
