-- `chunk::covers` meets its contract: by the word's kind. Assumes nothing.
use mathlib.Core.Path.{sym, ◌∙◌}
use native.Mathlib.Omega.{arith}
use Rattle.chunk.proofs.ChunkLaws.{covers-run, covers-vector}
use Rattle.chunk.proofs.covers.Goals as goal

pub returns-then-kind_bit-eq0 : goal.returns-then-kind_bit-eq0
returns-then-kind_bit-eq0 c = c.run_length.ensures ∙ sym (covers-run c.args.w (omega arith))

pub returns-else-kind_bit-eq0 : goal.returns-else-kind_bit-eq0
returns-else-kind_bit-eq0 c = sym (covers-vector c.args.w (omega arith))
