-- `xport::xr_pairs_view` meets its contract: the pairs of a block's view, of type 3, into two lists side by side.
use Rattle.def_questions.specs.Questions.{pairs_shown}
use Rattle.flat.proofs.FlatLaws.{flat-pairs}
use mathlib.Core.Path.{ap}
use Rattle.xport.proofs.xr_pairs_view.Goals as goal

pub returns : goal.returns
returns c = let a = c.args in
    flat-pairs (ap (λ r. pairs_shown r a.view.now) c.reading.ensures) c.pairs.ensures c.answer.ensures
