-- `frame::zero_bytes` meets its contract: to fill a part with zeros is to store so many zeros.
use Rattle.frame.proofs.FrameLaws.{part-stored}
use Rattle.frame.proofs.zero_bytes.Goals as goal
use Rattle.std.proofs.Common.{arith}

pub returns : goal.returns
returns c = part-stored (omega arith) c.requires (c.fill.ensures.after (λ y e. e))
