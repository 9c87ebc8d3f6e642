-- `chunk::chunk_of` meets its contract: one law for each kind of word. Assumes nothing.
use mathlib.Core.Path.{sym, ap, ◌∙◌}
use native.Mathlib.Omega.{arith}
use Rattle.chunk.proofs.ChunkLaws.{chunk-null, chunk-skip, chunk-run, chunk-vector}
use Rattle.def_standard.specs.declared.Chunk.TheVariants.{Skip, Run, Vector}
use Rattle.chunk.proofs.chunk_of.Goals as goal

pub returns-then-w-eq0 : goal.returns-then-w-eq0
returns-then-w-eq0 c = sym (chunk-null c.args.w c.if-w-eq0.true)

pub returns-then-run_bit-eq0 : goal.returns-then-run_bit-eq0
returns-then-run_bit-eq0 c = ap Skip c.run_length.ensures ∙ sym (chunk-skip c.args.w c.if-w-eq0.false (omega arith))

pub returns-then-kind_bit-eq0 : goal.returns-then-kind_bit-eq0
returns-then-kind_bit-eq0 c = ap Run c.run_length-then-kind_bit-eq0.ensures ∙ sym (chunk-run c.args.w (omega arith) (omega arith))

pub returns : goal.returns
returns c = ap Vector c.vector_bits.ensures ∙ sym (chunk-vector c.args.w (omega arith) (omega arith))
