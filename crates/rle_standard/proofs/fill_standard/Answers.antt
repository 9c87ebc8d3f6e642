-- `rle_standard::fill_standard` meets its contract: there is room for all that are inside, or for as many as were
-- counted; else it is refused. Assumes nothing.
use Rattle.std.specs.Prelude.{Ok}
use Rattle.ones.proofs.NumbersLaws.{length-numbers}
use Rattle.laws.proofs.Answering.{listed, full}
use Rattle.def_standard.specs.Standard.{numbers_of}
use Rattle.def_wire.specs.Bytes.{words16}
use lib.ListN.{length}
use Prim.Native.Nat.{◌≤◌}
use native.Mathlib.Omega.{arith}
use mathlib.Core.Path.{refl}
use Rattle.rle_standard.proofs.fill_standard.Goals as goal

pub returns-then-out-need : goal.returns-then-out-need
returns-then-out-need c = let a = c.args in
    let whole = numbers_of a.g (words16 a.bytes.now) in
    full (Ok whole) a.out.now whole _ refl c.count_standard-need.ensures c.if-out-need.true

-- there is room: for all that are inside, or for as many as were counted
pub list_standard-requires : goal.list_standard-requires
list_standard-requires c = grind (arith, length-numbers)

pub returns : goal.returns
returns c = let a = c.args in
    let whole = numbers_of a.g (words16 a.bytes.now) in
    let room : length whole ≤ length a.out.now = grind (arith, length-numbers) in
    listed (Ok whole) a.out.now whole _ _ refl room c.list_standard.ensures
