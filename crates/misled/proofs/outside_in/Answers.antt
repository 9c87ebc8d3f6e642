-- `misled::outside_in` meets its contract: what the words cover, and a number for all of them. Assumes nothing.
use Rattle.std.proofs.Common.{◌+◌, ◌*◌, ◌<◌, arith}
use lib.Bits.{bit_and}
use Rattle.def_jobs.specs.Jobs.{le16}
use Rattle.misled.specs.Known.{Quiet}
use Rattle.misled.proofs.QuietLaws.{quiet-lowered}
use Rattle.misled.proofs.StretchTurn.{gathering-none, gathering-more}
use Rattle.misled.proofs.outside_in.Goals as goal
use Rattle.misled.proofs.outside_in.Goals.{After-wrapping_sub_u16}

-- a word whose number is below 16384 has no ones
word-quiet : (c : After-wrapping_sub_u16) → let a = c.args in
    bit_and c.load16-w.result c.wrapping_sub_u16.result < 16384
    → Quiet (le16 a.body.now (a.from + 2 * c.loop-k.k))
word-quiet c =
    rw (← c.load16-w.ensures)
    (quiet-lowered c.load16-w.result c.wrapping_sub_u16.result c.wrapping_sub_u16.ensures.value (omega arith))

pub loop-k-init : goal.loop-k-init
loop-k-init c = let a = c.args in gathering-none a.body.now a.from a.start (omega arith)

pub loop-k-preserved : goal.loop-k-preserved
loop-k-preserved c = let a = c.args in
    rw c.wrapping_add_u16-p.ensures.value
    (gathering-more a.body.now a.from c.loop-k.k c.covers.result
    (rw (← c.load16-w.ensures) c.covers.ensures) _ (word-quiet (goal.at.loop-k-preserved c).After-wrapping_sub_u16) c.loop-k.invariant)
