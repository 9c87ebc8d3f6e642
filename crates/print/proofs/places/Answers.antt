-- `print::places` meets its contract: how many decimal digits a number has.
use Rattle.std.proofs.Common.{arith}
use Rattle.print.proofs.DigitLaws.{places-of}
use Rattle.print.proofs.places.Goals as goal

pub returns : goal.returns
returns c = places-of c.args.n c.max.result c.ilog10.result (omega arith) c.ilog10.ensures.power_le c.ilog10.ensures.next_power_gt c.ilog10.ensures.bound
