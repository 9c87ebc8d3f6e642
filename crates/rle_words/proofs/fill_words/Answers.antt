-- `rle_words::fill_words` meets its contract: there is room, or it is refused. Assumes nothing.
use Rattle.std.specs.Prelude.{Ok}
use Rattle.laws.proofs.Answering.{listed, full}
use Rattle.def_wire.specs.Bytes.{words16}
use native.Mathlib.Omega.{arith}
use lib.ListN.{length}
use Prim.Native.Nat.{◌≤◌}
use mathlib.Core.Path.{refl}
use Rattle.rle_words.proofs.fill_words.Goals as goal

pub returns-then-need-out : goal.returns-then-need-out
returns-then-need-out c = let a = c.args in
    let whole = words16 a.bytes.now in
    let t = c.if-need-out.true in
    let k : length whole ≤ length a.out.now = omega (arith, c.count_words-need.ensures, t) in
    listed (Ok whole) a.out.now whole _ _ refl k c.list_words.ensures

pub returns-else-need-out : goal.returns-else-need-out
returns-else-need-out c = let a = c.args in
    let whole = words16 a.bytes.now in
    full (Ok whole) a.out.now whole _ refl c.count_words-need.ensures c.if-need-out.false
