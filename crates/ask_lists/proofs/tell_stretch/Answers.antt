-- `ask_lists::tell_stretch` meets its contract: the two lines of a stretch, or the refusal's, and
-- `spoilt` unless the memory is whole.
use Rattle.print.proofs.AddedLaws.{and_then, reads}
use Rattle.lent.proofs.TellLaws.{stretch-moved, stretch-stuck}
use Rattle.ask_lists.proofs.tell_stretch.Goals as goal

pub returns-in-Ok : goal.returns-in-Ok
returns-in-Ok c = reads (stretch-moved _ _ _ _ c.in-Ok.is c.stands.ensures)
    (and_then (and_then c.taken_line-n.ensures c.numbers_line-m.ensures)
    c.said_whole.ensures)

pub returns-in-Err : goal.returns-in-Err
returns-in-Err c = reads (stretch-stuck _ _ _ _ c.in-Err.is c.stands-in-Err.ensures)
    (and_then c.refusal_line-m.ensures c.said_whole-in-Err.ensures)
