-- `numbers::words` meets its contract: the chunk words of a block's view, asked as type t.
use Rattle.numbers.proofs.AskedLaws.{words-fine, words-unfit, listed-as}
use Rattle.laws.proofs.Passing.{handed-on}
use Rattle.laws.proofs.Answering.{turned-away}
use mathlib.Core.Path.{sym, ◌∙◌}
use Rattle.numbers.proofs.words.Goals as goal

pub returns : goal.returns
returns c = let a = c.args in
    listed-as (words-fine a.r a.a a.v.now _ c.word_bytes.ensures
    (sym c.check_chunks.ensures ∙ c.in_ok-check_chunks.was)) c.fill_words.ensures

pub returns-in_err-check_chunks : goal.returns-in_err-check_chunks
returns-in_err-check_chunks c = let a = c.args in
    rw (handed-on _ _ c.from_residual.ensures) (turned-away _ a.out.now c.in_err-check_chunks.field-0.0 (words-unfit a.r a.a a.v.now c.in_err-check_chunks.field-0.0
    (sym c.check_chunks.ensures ∙ c.in_err-check_chunks.was)))
