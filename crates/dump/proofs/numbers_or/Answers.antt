-- `dump::numbers_or` meets its contract: numbers, first into few items.
use native.Mathlib.Omega.{arith}
use Rattle.dump.proofs.ListLaws.{numbers-shown}
use Rattle.print.proofs.AddedLaws.{reads}
use Rattle.dump.proofs.numbers_or.Goals as goal

pub returns-in-Ok : goal.returns-in-Ok
returns-in-Ok c = reads (numbers-shown c.in-Ok.is c.numbers.ensures (omega arith))
    c.numbers_line.ensures
