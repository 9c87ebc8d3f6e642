-- `chunk::value` meets its contract: by the word's kind. Assumes nothing.
use mathlib.Core.Path.{sym, ◌∙◌}
use native.Mathlib.Omega.{arith}
use Rattle.chunk.proofs.ChunkLaws.{value-run, value-vector}
use Rattle.chunk.proofs.value.Goals as goal

pub returns-then-kind_bit-eq0 : goal.returns-then-kind_bit-eq0
returns-then-kind_bit-eq0 c = let a = c.args in
    c.run_bit.ensures ∙ sym (value-run a.w a.q (omega arith))

pub returns-else-kind_bit-eq0 : goal.returns-else-kind_bit-eq0
returns-else-kind_bit-eq0 c = let a = c.args in
    c.place_bit.ensures ∙ sym (value-vector a.w a.q (omega arith))
