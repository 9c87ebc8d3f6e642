-- `dump::many_entries` meets its contract: as many entries as are shown of one list at most.
use native.Mathlib.Omega.{arith}
use mathlib.Core.Path.{refl}
use Rattle.dump.proofs.ListLaws.{entries-shown, entries-not-shown}
use Rattle.print.proofs.AddedLaws.{reads}
use Rattle.dump.proofs.many_entries.Goals as goal

pub returns-in-Ok : goal.returns-in-Ok
returns-in-Ok c = reads (entries-shown c.in-Ok.is c.entries.ensures (omega arith))
    c.entries_line.ensures

pub returns-in-Err : goal.returns-in-Err
returns-in-Err c = reads (entries-not-shown c.in-Err.is c.entries.ensures refl)
    c.refused_line.ensures
