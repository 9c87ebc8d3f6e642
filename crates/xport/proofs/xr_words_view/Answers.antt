-- `xport::xr_words_view` meets its contract: the chunk words of a block's view, asked as type t (1 or 2).
use Rattle.flat.proofs.FlatLaws.{flat-listed}
use Rattle.by_number.proofs.ViewLaws.{words_view_by}
use mathlib.Core.Path.{ap}
use Rattle.xport.proofs.xr_words_view.Goals as goal

pub returns : goal.returns
returns c = let a = c.args in
    flat-listed (ap (λ r. words_view_by r a.t a.view.now) c.reading.ensures) c.words_view.ensures
    c.answer.ensures
