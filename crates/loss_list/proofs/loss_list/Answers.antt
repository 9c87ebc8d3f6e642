-- `loss_list::loss_list` meets its contract: there is room, or it is refused.
use Rattle.std.specs.Prelude.{Ok}
use Prim.Native.Nat.{◌≤◌}
use mathlib.Core.Path.{refl, sym}
use native.Mathlib.Omega.{arith}
use lib.ListN.{length}
use Rattle.def_marks.specs.Report.{loss_list}
use Rattle.laws.proofs.Stores.{filled}
use Rattle.laws.proofs.Answering.{listed, full}
use Rattle.loss_list.proofs.ListLaws.{length-loss_list}
use Rattle.loss_list.proofs.loss_list.Goals as goal

pub returns-then-need-out : goal.returns-then-need-out
returns-then-need-out c = let a = c.args in
    let whole = loss_list a.sender a.media a.begin a.end a.words.now in
    let size = length-loss_list a.sender a.media a.begin a.end a.words.now in
    let k : length whole ≤ length a.out.now = omega (arith, size, c.if-need-out.true) in
    listed (Ok whole) a.out.now whole _ _ refl k (filled {a = whole} k c.put_list.ensures)

pub returns-else-need-out : goal.returns-else-need-out
returns-else-need-out c = let a = c.args in
    let whole = loss_list a.sender a.media a.begin a.end a.words.now in
    let size = length-loss_list a.sender a.media a.begin a.end a.words.now in
    full (Ok whole) a.out.now whole _ refl (sym size) c.if-need-out.false
