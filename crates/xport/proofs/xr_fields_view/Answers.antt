-- `xport::xr_fields_view` meets its contract: the fields of a block's view, asked as type t (1, 2 or 3).
use Rattle.flat.specs.Flat.{flat_fields}
use Rattle.by_number.proofs.ViewLaws.{fields_view_by}
use mathlib.Core.Path.{ap, ◌∙◌}
use Rattle.xport.proofs.xr_fields_view.Goals as goal

pub returns : goal.returns
returns c = let a = c.args in
    c.fields.ensures ∙ ap flat_fields (c.fields_view.ensures
    ∙ ap (λ q. fields_view_by q a.t a.view.now) c.reading.ensures)
