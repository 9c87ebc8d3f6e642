-- `xport::xr_numbers_view` meets its contract: the numbers of a block's view, as xr_locate says where it lies.
use Rattle.flat.proofs.FlatLaws.{flat-listed}
use Rattle.def_questions.specs.ByNumber.{numbers_view_by}
use mathlib.Core.Path.{ap}
use Rattle.xport.proofs.xr_numbers_view.Goals as goal

pub returns : goal.returns
returns c = let a = c.args in
    flat-listed (ap (λ r. numbers_view_by r a.t a.view.now) c.reading.ensures) c.numbers_view.ensures
    c.answer.ensures
