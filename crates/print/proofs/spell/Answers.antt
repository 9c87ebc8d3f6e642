-- `print::spell` meets its contract: a number's last k digits, from the last one on.
use Rattle.std.proofs.Common.{arith}
use Rattle.print.proofs.DigitLaws.{spelt, spelling}
use Rattle.print.proofs.spell.Goals as goal

pub loop-i-preserved : goal.loop-i-preserved
loop-i-preserved c = spelling c.loop-i.invariant c.digit.result (omega arith) c.digit.ensures

pub returns : goal.returns
returns c = spelt c.loop-i.invariant (omega arith)
