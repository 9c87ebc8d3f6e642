-- `flat::fields` meets its contract.
use Rattle.flat.specs.Flat.{flat_fields, fields_row, no_fields}
use mathlib.Core.Path.{sym, ap, ◌∙◌}
use Rattle.flat.proofs.fields.Goals as goal

pub returns-in-Ok : goal.returns-in-Ok
unfolding flat_fields
returns-in-Ok c = sym (ap flat_fields c.in-Ok.is)

pub returns-in-Err : goal.returns-in-Err
unfolding flat_fields
returns-in-Err c = ap (λ f. fields_row f no_fields) c.refusal-f.ensures
    ∙ sym (ap flat_fields c.in-Err.is)
