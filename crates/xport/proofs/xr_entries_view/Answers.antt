-- `xport::xr_entries_view` meets its contract: the entries of a block's view, of type 5.
use Rattle.def_questions.specs.Questions.{entries_shown}
use Rattle.flat.proofs.FlatLaws.{flat-entries}
use mathlib.Core.Path.{ap}
use Rattle.xport.proofs.xr_entries_view.Goals as goal

pub returns : goal.returns
returns c = let a = c.args in
    flat-entries (ap (λ r. entries_shown r a.view.now) c.reading.ensures) c.entries.ensures
    c.answer.ensures
