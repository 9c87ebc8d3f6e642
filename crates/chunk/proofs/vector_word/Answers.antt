-- `chunk::vector_word` meets its contract: 0x8000 is 1 * 2 ^ 15, and v is below it. Assumes nothing.
use native.Mathlib.Omega.{arith}
use lib.Bits.{or_shifted}
use Rattle.chunk.proofs.vector_word.Goals as goal

pub returns : goal.returns
returns c = or_shifted 1 15 c.args.v (omega arith)
