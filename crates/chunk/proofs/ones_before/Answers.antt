-- `chunk::ones_before` meets its contract: one law for each kind of word. Assumes nothing.
use Prim.Native.Nat.{◌-◌}
use mathlib.Core.Path.{sym, ◌∙◌}
use native.Mathlib.Omega.{arith}
use Rattle.chunk.proofs.OnesLaws.{ones_before-skip, ones_before-run, ones_before-vector, ones-few}
use Rattle.chunk.proofs.ones_before.Goals as goal

pub returns-then-run_bit-eq0 : goal.returns-then-run_bit-eq0
returns-then-run_bit-eq0 c = let a = c.args in sym (ones_before-skip a.w a.room (omega arith))

pub returns-then-kind_bit-eq0 : goal.returns-then-kind_bit-eq0
returns-then-kind_bit-eq0 c = let a = c.args in
    c.min.ensures
    ∙ (rw c.run_length.ensures (sym (ones_before-run a.w a.room (omega arith) (omega arith))))

pub overflow_cast-result-3 : goal.overflow_cast-result-3
overflow_cast-result-3 c = omega (arith, ones-few c.vector_bits.result (15 - c.min-unasked.result) (omega arith))

pub returns : goal.returns
returns c = let a = c.args in
    rw (c.vector_bits.ensures, c.min-unasked.ensures) (sym (ones_before-vector a.w a.room (omega arith)))
