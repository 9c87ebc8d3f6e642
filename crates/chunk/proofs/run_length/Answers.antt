-- `chunk::run_length` meets its contract: the mask is 2 ^ 14 - 1. Assumes nothing.
use lib.Bits.{and_mask}
use Rattle.chunk.proofs.run_length.Goals as goal

pub returns : goal.returns
returns c = and_mask c.args.w 14
