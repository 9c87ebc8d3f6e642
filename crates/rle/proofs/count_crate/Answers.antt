-- `rle::count_crate` meets its contract: the part that is read is what `take` gives. Assumes nothing.
use Rattle.utils.proofs.PartLaws.{take-cut, length_cut}
use lib.ListN.{length, take}
use mathlib.Core.Path.{◌≡◌}
use native.Mathlib.Omega.{arith}
use Rattle.rle.proofs.count_crate.Goals as goal
use Rattle.rle.proofs.count_crate.Goals.{After-min-size}

-- the part has that length
cut : (f : After-min-size) → let n = f.min-size.result in n ≡ length (take n f.args.bytes.now)
cut f =
    length_cut f.args.bytes.now 262144 f.min-size.result f.min-size.ensures

pub slice_bounds-tally_crate-end : goal.slice_bounds-tally_crate-end
slice_bounds-tally_crate-end c = cut (goal.at.slice_bounds-tally_crate-end c).After-min-size

pub tally_crate-requires : goal.tally_crate-requires
tally_crate-requires c = omega (arith, cut (goal.at.tally_crate-requires c).After-min-size, c.min-size.ensures)

pub returns : goal.returns
returns c = rw (← take-cut c.args.bytes.now 262144 c.min-size.result c.min-size.ensures)
    c.tally_crate.ensures
