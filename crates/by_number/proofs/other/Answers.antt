-- `by_number::other` meets its contract: why a question that a block's type does not serve is refused.
use Rattle.by_number.specs.Other.{other_of}
use Rattle.xr.proofs.WalkLaws.{view-shown, view-refused}
use Rattle.xr.proofs.HeaderBytes.{type-taken}
use Rattle.def_wire.specs.Block.{type_of}
use Rattle.def_refusals.specs.declared.Refusal.TheVariants.{OtherType}
use mathlib.Core.Path.{sym, ap, ◌∙◌}
use Rattle.by_number.proofs.other.Goals as goal

pub returns-in-Ok : goal.returns-in-Ok
returns-in-Ok c = let a = c.args in
    ap OtherType (type-taken c.part.result.now _ c.header_data-h.ensures _ c.block_type.ensures
    ∙ ap type_of c.part.ensures.result_value)
    ∙ ap other_of (sym (view-shown a.r a.s.now a.k c.in-Ok.at c.in-Ok.n
    (sym c.locate.ensures ∙ c.in-Ok.is)))

pub returns-in-Err : goal.returns-in-Err
returns-in-Err c = let a = c.args in
    ap other_of (sym (view-refused a.r a.s.now a.k c.in-Err.x
    (sym c.locate.ensures ∙ c.in-Err.is)))
