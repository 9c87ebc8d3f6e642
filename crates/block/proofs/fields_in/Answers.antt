-- `block::fields_in` meets its contract: the fields of block k of a packet.
use Rattle.laws.proofs.Passing.{handed-on}
use Rattle.block.proofs.BlockLaws.{fields-asked, fields-missing}
use Rattle.def_wire.specs.Block.{fields_of}
use Prim.Native.Nat.{ℕ}
use mathlib.Core.List.{List}
use mathlib.Core.Path.{sym, ap, ◌∙◌}
use Rattle.block.proofs.fields_in.Goals as goal

pub returns : goal.returns
returns c = let a = c.args in
    c.fields.ensures ∙ ap (λ (v : List ℕ). fields_of a.r a.g v) c.part.ensures.result_value
    ∙ fields-asked a.r a.s.now a.k c.in_ok-at.at c.in_ok-at.n
    (sym c.locate.ensures ∙ c.in_ok-at.was) a.g

pub returns-in_err-at : goal.returns-in_err-at
returns-in_err-at c = let a = c.args in
    rw (handed-on _ _ c.from_residual.ensures) (fields-missing a.r a.s.now a.k c.in_err-at.field-0.0 (sym c.locate.ensures ∙ c.in_err-at.was) a.g)
