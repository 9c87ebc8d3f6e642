-- `numbers::standard_numbers` meets its contract: the words are judged with the list.
use Rattle.std.specs.Prelude.{Ok}
use mathlib.Core.Path.{sym, ap, ◌∙◌}
use lib.ListN.{length}
use Rattle.def_refusals.specs.Answers.{on_fine}
use Rattle.def_wire.specs.Bytes.{words16}
use Rattle.def_wire.specs.Block.{clear_rule}
use Rattle.def_standard.specs.declared.Range.{Range}
use Rattle.def_standard.specs.Standard.{numbers_of}
use Rattle.laws.proofs.Passing.{handed-on}
use Rattle.laws.proofs.Answering.{turned-away}
use Rattle.numbers.proofs.AskedLaws.{numbers-standard, numbers-short, listed-as}
use Rattle.numbers.proofs.standard_numbers.Goals as goal

pub returns : goal.returns
returns c = let a = c.args in
    let ws = words16 c.word_bytes.result.now in
    let e = numbers-standard a.a a.v.now c.fields_at.result c.word_bytes.result.now
    c.fields_at.ensures (sym c.check_length.ensures ∙ c.in_ok-check_length.was)
    c.word_bytes.ensures in
    listed-as (ap (λ (q : Range). on_fine (clear_rule (length a.v.now) ws) (Ok (numbers_of q ws)))
    c.range_of-g.ensures ∙ e) c.fill_clear.ensures

pub returns-in_err-check_length : goal.returns-in_err-check_length
returns-in_err-check_length c = let a = c.args in
    rw (handed-on _ _ c.from_residual.ensures) (turned-away _ a.out.now c.in_err-check_length.field-0.0 (numbers-short a.a a.v.now c.in_err-check_length.field-0.0
    (sym c.check_length.ensures ∙ c.in_err-check_length.was)))
