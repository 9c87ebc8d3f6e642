-- `by_number::fields_view` meets its contract: the fields of a block's view, asked by a number.
use Rattle.std.specs.Prelude.{Err}
use Rattle.by_number.proofs.ViewLaws.{fields-view-served, fields-view-other}
use mathlib.Core.Path.{sym, ap, ◌∙◌}
use Rattle.by_number.proofs.fields_view.Goals as goal

pub returns-in-Some : goal.returns-in-Some
returns-in-Some c = let a = c.args in
    c.fields.ensures ∙ fields-view-served a.r a.t a.v.now c.in-Some.g
    (sym c.ranged_of.ensures ∙ c.in-Some.is)

pub returns-in-None : goal.returns-in-None
returns-in-None c = let a = c.args in
    ap Err c.unserved.ensures ∙ fields-view-other a.r a.t a.v.now
    (sym c.ranged_of.ensures ∙ c.in-None.is)
