-- `range::number_at` meets its contract: a doubling in 64 bits, cut to 16, is one in 16. Assumes nothing.
use Rattle.def_standard.specs.Range.{number_of, offset_of}
use lib.Pow.{mod-mod-pow}
use native.Mathlib.Nat.{add-mod-mod}
use Rattle.std.proofs.Common.{◌*◌, ◌^◌}
use Rattle.range.proofs.number_at.Goals as goal

pub returns : goal.returns
unfolding number_of offset_of
returns c = let a = c.args in
    let x = a.p * 2 ^ a.g.thinning in
    rw (c.times_two_to.ensures, mod-mod-pow x 48 16, add-mod-mod a.g.begin x 65536)
