-- `ask_lists::tell_pairs` meets its contract: the line of pairs, or the refusal's, and
-- `spoilt` unless the memory is whole.
use Rattle.print.proofs.AddedLaws.{and_then, reads}
use Rattle.lent.proofs.TellLaws.{pairs-done, pairs-refused}
use Rattle.ask_lists.proofs.tell_pairs.Goals as goal

pub returns-in-Ok : goal.returns-in-Ok
returns-in-Ok c = reads (pairs-done _ _ _ _ _ c.in-Ok.is
    (rw (c.stands.ensures, c.stands-in-Ok.ensures) at c.both.ensures))
    (and_then c.pairs_line-m.ensures c.said_whole.ensures)

pub returns-in-Err : goal.returns-in-Err
returns-in-Err c = reads (pairs-refused _ _ _ _ _ c.in-Err.is
    (rw (c.stands-in-Err.ensures, c.stands-in-Err-2.ensures) at c.both-in-Err.ensures))
    (and_then c.refusal_line-m.ensures c.said_whole-in-Err.ensures)
