-- `dump::entries_or` meets its contract: entries, first into few items.
use native.Mathlib.Omega.{arith}
use Rattle.dump.proofs.ListLaws.{entries-shown}
use Rattle.print.proofs.AddedLaws.{reads}
use Rattle.dump.proofs.entries_or.Goals as goal

pub returns-in-Ok : goal.returns-in-Ok
returns-in-Ok c = reads (entries-shown c.in-Ok.is c.entries.ensures (omega arith))
    c.entries_line.ensures
