-- `by_number::numbers_view` meets its contract: the numbers of a block's view, asked by a number.
use Rattle.std.specs.Prelude.{Err}
use Rattle.by_number.proofs.ByLaws.{view-served, view-other}
use Rattle.numbers.proofs.AskedLaws.{listed-as}
use Rattle.xr.proofs.HeaderBytes.{type-taken}
use Rattle.laws.proofs.Answering.{turned-away}
use Rattle.def_refusals.specs.declared.Refusal.TheVariants.{OtherType}
use Prim.Native.Nat.{ℕ}
use mathlib.Core.Path.{sym, ap, ◌∙◌}
use Rattle.by_number.proofs.numbers_view.Goals as goal

pub returns-in-Some : goal.returns-in-Some
returns-in-Some c = let a = c.args in
    listed-as (view-served a.r a.v.now 0 a.t c.in-Some.a (sym c.rle_of.ensures ∙ c.in-Some.is)
    a.v.now) c.numbers.ensures

pub returns-in-None : goal.returns-in-None
returns-in-None c = let a = c.args in
    turned-away _ a.out.now _
    (view-other a.r a.v.now 0 a.t (sym c.rle_of.ensures ∙ c.in-None.is) a.v.now
    ∙ ap (λ (b : ℕ). Err (OtherType b)) (sym (type-taken a.v.now _ c.header_data-h.ensures _
    c.block_type.ensures)))
