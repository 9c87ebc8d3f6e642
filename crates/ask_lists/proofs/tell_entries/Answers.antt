-- `ask_lists::tell_entries` meets its contract: the line of entries, or the refusal's, and
-- `spoilt` unless the memory is whole.
use Rattle.print.proofs.AddedLaws.{and_then, reads}
use Rattle.lent.proofs.TellLaws.{entries-done, entries-refused}
use Rattle.ask_lists.proofs.tell_entries.Goals as goal

pub returns-in-Ok : goal.returns-in-Ok
returns-in-Ok c = reads (entries-done _ _ _ _ _ _ c.in-Ok.is c.stand.ensures)
    (and_then c.entries_line-m.ensures c.said_whole.ensures)

pub returns-in-Err : goal.returns-in-Err
returns-in-Err c = reads (entries-refused _ _ _ _ _ _ c.in-Err.is c.stand-in-Err.ensures)
    (and_then c.refusal_line-m.ensures c.said_whole-in-Err.ensures)
