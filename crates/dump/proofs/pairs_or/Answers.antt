-- `dump::pairs_or` meets its contract: pairs, first into few items.
use native.Mathlib.Omega.{arith}
use Rattle.dump.proofs.ListLaws.{pairs-shown}
use Rattle.print.proofs.AddedLaws.{reads}
use Rattle.dump.proofs.pairs_or.Goals as goal

pub returns-in-Ok : goal.returns-in-Ok
returns-in-Ok c = reads (pairs-shown c.in-Ok.is c.pairs.ensures (omega arith))
    c.pairs_line.ensures
