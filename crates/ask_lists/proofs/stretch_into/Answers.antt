-- `ask_lists::stretch_into` meets its contract: a stretch of the number cursor into lent memory.
use Rattle.print.proofs.AddedLaws.{reads}
use Rattle.lent.proofs.TellLaws.{stretched}
use Rattle.ask_lists.proofs.stretch_into.Goals as goal

pub returns : goal.returns
returns c = reads (stretched _ _ _ c.fill.ensures c.advance-a.ensures)
    c.tell_stretch.ensures
