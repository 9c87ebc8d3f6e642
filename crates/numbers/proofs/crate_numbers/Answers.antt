-- `numbers::crate_numbers` meets its contract: the crate's numbers of a block's view.
use native.Mathlib.Omega.{arith}
use mathlib.Core.Path.{sym, ◌∙◌}
use Rattle.def_wire.specs.declared.Reading.TheVariants.{Crate}
use Rattle.laws.proofs.Passing.{handed-on}
use Rattle.laws.proofs.Answering.{turned-away}
use Rattle.numbers.proofs.AskedLaws.{numbers-crate, numbers-unfit, listed-as}
use Rattle.numbers.proofs.crate_numbers.Goals as goal

pub returns : goal.returns
returns c = let a = c.args in
    listed-as (numbers-crate a.a a.v.now c.fields_at-f.result c.word_bytes.result.now
    c.fields_at-f.ensures (sym c.check_chunks.ensures ∙ c.in_ok-check_chunks.was) c.word_bytes.ensures
    (omega (
      arith,
      c.type_inv.v 2,
      c.type_inv.v 3,
    ))) c.fill_crate.ensures

pub returns-in_err-check_chunks : goal.returns-in_err-check_chunks
returns-in_err-check_chunks c = let a = c.args in
    rw (handed-on _ _ c.from_residual.ensures) (turned-away _ a.out.now c.in_err-check_chunks.field-0.0 (numbers-unfit Crate a.a a.v.now c.in_err-check_chunks.field-0.0
    (sym c.check_chunks.ensures ∙ c.in_err-check_chunks.was)))
