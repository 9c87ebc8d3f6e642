-- `range::ceil_shift` meets its contract: rounding up, by rounding down. Assumes nothing.
use Rattle.range.proofs.InsideLaws.{ceil-zero, ceil-pos}
use Rattle.std.proofs.Common.{◌-◌, ◌^◌, ◌<◌, ◌≤◌, sym, ◌∙◌, arith, pow_pos, pow_mono}
use lib.Pow.{shr_le}
use native.Mathlib.Nat.{div-eq_of_lt}
use Rattle.range.proofs.ceil_shift.Goals as goal

pub returns-then-a-eq0 : goal.returns-then-a-eq0
returns-then-a-eq0 c = let a = c.args in sym (ceil-zero a.a (2 ^ a.t) (pow_pos a.t) c.if-a-eq0.true)

pub returns-then-t-ge64 : goal.returns-then-t-ge64
returns-then-t-ge64 c = let a = c.args in
    let far : 2 ^ 64 ≤ 2 ^ a.t = pow_mono c.if-t-ge64.true in
    let low : a.a - 1 < 2 ^ a.t = omega arith in
    sym (ceil-pos a.a (2 ^ a.t) (pow_pos a.t) (omega arith) ∙ (rw (div-eq_of_lt low)))

pub overflow_add-result : goal.overflow_add-result
overflow_add-result c = let a = c.args in omega (arith, shr_le (a.a - 1) a.t)

pub returns : goal.returns
returns c = let a = c.args in sym (ceil-pos a.a (2 ^ a.t) (pow_pos a.t) (omega arith))
