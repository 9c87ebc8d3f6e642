-- `ask::viewed` meets its contract: where a block's view lies, its length and its header bytes, or the refusal.
use Rattle.print.proofs.AddedLaws.{reads}
use Rattle.ask.proofs.AskLaws.{view-at, view-missing}
use Rattle.ask.proofs.viewed.Goals as goal

pub returns-in-Ok : goal.returns-in-Ok
returns-in-Ok c = reads (view-at _ _ _ _ c.locate.ensures _ _ c.in-Ok.is
    _ c.view.ensures.result_value _ c.header_data-h.ensures)
    c.view_line.ensures

pub returns-in-Err : goal.returns-in-Err
returns-in-Err c = reads (view-missing _ _ _ _ c.locate.ensures _ c.in-Err.is)
    c.refusal_line.ensures
