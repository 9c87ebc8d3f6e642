-- `cursor::advance` meets its contract: takes at most budget steps in a block, asked as type t.
use Rattle.laws.proofs.Passing.{handed-on}
use Rattle.cursor.proofs.AdvanceLaws.{range-fits, words-behind, stretched-fit, stretched-unfit}
use Rattle.def_standard.specs.Range.{range_of}
use Rattle.def_wire.specs.Block.{fields_at}
use mathlib.Core.Path.{◌≡◌, sym, ap, ◌∙◌}
use Rattle.cursor.proofs.advance.Goals as goal

pub advance_words-requires : goal.advance_words-requires
advance_words-requires c = rw c.range_of-g.ensures (range-fits c.fields_at.result)

pub returns : goal.returns
returns c = let a = c.args in
    let g : c.range_of-g.result ≡ range_of (fields_at a.v.now) = c.range_of-g.ensures
    ∙ ap range_of c.fields_at.ensures in
    stretched-fit a.a a.v.now a.c a.budget a.out.now c.advance_words.result _
    (sym c.check_chunks.ensures ∙ c.in_ok-check_chunks.was)
    (rw (← g, ← words-behind a.v.now, ← c.part.ensures.result_value) c.advance_words.ensures)

pub returns-in_err-check_chunks : goal.returns-in_err-check_chunks
returns-in_err-check_chunks c = let a = c.args in
    rw (handed-on _ _ c.from_residual.ensures) (stretched-unfit a.a a.v.now a.c a.budget a.out.now c.in_err-check_chunks.field-0.0
    (sym c.check_chunks.ensures ∙ c.in_err-check_chunks.was))
