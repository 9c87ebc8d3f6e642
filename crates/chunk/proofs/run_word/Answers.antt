-- `chunk::run_word` meets its contract: 0x4000 is 1 * 2 ^ 14, and n is below it. Assumes nothing.
use native.Mathlib.Omega.{arith}
use lib.Bits.{or_shifted}
use Rattle.chunk.proofs.run_word.Goals as goal

pub returns : goal.returns
returns c = or_shifted 1 14 c.args.n (omega arith)
