-- `ones::without_top` meets its contract: the shift does not wrap. Assumes nothing.
use Rattle.ones.proofs.DigitLaws.{top_below}
use Rattle.std.proofs.Common.{arith}
use Rattle.ones.proofs.without_top.Goals as goal

pub overflow_cast-result : goal.overflow_cast-result
overflow_cast-result c = omega (arith, top_below 32 (omega arith) c.requires)

pub overflow_shl-result : goal.overflow_shl-result
overflow_shl-result c = omega (arith, top_below 32 (omega arith) c.requires)
