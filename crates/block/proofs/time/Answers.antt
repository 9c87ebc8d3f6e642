-- `block::time` meets its contract: the time of a block of type 4.
use Rattle.laws.proofs.Passing.{handed-on}
use Rattle.block.proofs.BlockLaws.{time-shown, time-unfit}
use mathlib.Core.Path.{sym, ◌∙◌}
use Rattle.block.proofs.time.Goals as goal

pub returns : goal.returns
returns c = let a = c.args in
    rw c.u64_from_be_bytes.ensures (time-shown a.r a.v.now
    (sym c.check_clock.ensures ∙ c.in_ok-check_clock.was))

pub returns-in_err-check_clock : goal.returns-in_err-check_clock
returns-in_err-check_clock c = let a = c.args in
    rw (handed-on _ _ c.from_residual.ensures) (time-unfit a.r a.v.now c.in_err-check_clock.field-0.0 (sym c.check_clock.ensures ∙ c.in_err-check_clock.was))
