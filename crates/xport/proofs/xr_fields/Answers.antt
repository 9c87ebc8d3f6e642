-- `xport::xr_fields` meets its contract: the fields of block k, asked as type t (1, 2 or 3).
use Rattle.flat.specs.Flat.{flat_fields}
use Rattle.def_questions.specs.ByNumber.{fields_by}
use mathlib.Core.Path.{ap, ◌∙◌}
use Rattle.xport.proofs.xr_fields.Goals as goal

pub returns : goal.returns
returns c = let a = c.args in
    c.fields-2.ensures ∙ ap flat_fields (c.fields.ensures
    ∙ ap (λ q. fields_by q a.packet.now a.k a.t) c.reading.ensures)
