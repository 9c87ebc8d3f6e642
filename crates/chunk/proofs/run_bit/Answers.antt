-- `chunk::run_bit` meets its contract: the mask 1 is 2 ^ 1 - 1. Assumes nothing.
use Prim.Native.Nat.{◌/◌}
use lib.Bits.{and_mask}
use Rattle.chunk.proofs.run_bit.Goals as goal

pub returns : goal.returns
returns c = and_mask (c.args.w / 16384) 1
