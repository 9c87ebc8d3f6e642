-- `block::fields` meets its contract: the fields of a block of type 1, 2 or 3, asked as type t.
use Rattle.laws.proofs.Passing.{handed-on}
use Rattle.std.specs.Prelude.{Ok}
use Rattle.block.proofs.BlockLaws.{fields-shown, fields-cut, fields-unfit}
use mathlib.Core.Path.{sym, ap, ◌∙◌}
use Rattle.block.proofs.fields.Goals as goal

pub returns-then-is_cut : goal.returns-then-is_cut
returns-then-is_cut c = let a = c.args in
    fields-cut a.r a.g a.v.now (sym c.check_range.ensures ∙ c.in_ok-check_range.was)
    (sym c.is_cut.ensures ∙ c.if-is_cut.true)

pub returns : goal.returns
returns c = let a = c.args in
    ap Ok c.fields_at.ensures
    ∙ fields-shown a.r a.g a.v.now (sym c.check_range.ensures ∙ c.in_ok-check_range.was)
    (sym c.is_cut.ensures ∙ c.if-is_cut.false)

pub returns-in_err-check_range : goal.returns-in_err-check_range
returns-in_err-check_range c = let a = c.args in
    rw (handed-on _ _ c.from_residual.ensures) (fields-unfit a.r a.g a.v.now c.in_err-check_range.field-0.0 (sym c.check_range.ensures ∙ c.in_err-check_range.was))
