-- `chunk::vector_bits` meets its contract: the mask is 2 ^ 15 - 1. Assumes nothing.
use lib.Bits.{and_mask}
use Rattle.chunk.proofs.vector_bits.Goals as goal

pub returns : goal.returns
returns c = and_mask c.args.w 15
