-- `by_number::fields` meets its contract: block k's fields, asked by a number.
use Rattle.std.specs.Prelude.{Err}
use Rattle.by_number.proofs.ByLaws.{fields-served, fields-other}
use mathlib.Core.Path.{sym, ap, ◌∙◌}
use Rattle.by_number.proofs.fields.Goals as goal

pub returns-in-Some : goal.returns-in-Some
returns-in-Some c = let a = c.args in
    c.fields_in.ensures ∙ fields-served a.r a.s.now a.k a.t c.in-Some.g
    (sym c.ranged_of.ensures ∙ c.in-Some.is)

pub returns-in-None : goal.returns-in-None
returns-in-None c = let a = c.args in
    ap Err c.other.ensures ∙ fields-other a.r a.s.now a.k a.t
    (sym c.ranged_of.ensures ∙ c.in-None.is)
