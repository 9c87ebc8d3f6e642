-- `by_number::words_view` meets its contract: the chunk words of a block's view, asked by a number.
use Rattle.std.specs.Prelude.{Err}
use Rattle.by_number.proofs.ViewLaws.{words-view-served, words-view-other}
use Rattle.numbers.proofs.AskedLaws.{listed-as}
use Rattle.laws.proofs.Answering.{turned-away}
use mathlib.Core.Path.{sym, ap, ◌∙◌}
use Rattle.by_number.proofs.words_view.Goals as goal

pub returns-in-Some : goal.returns-in-Some
returns-in-Some c = let a = c.args in
    listed-as (words-view-served a.r a.t a.v.now c.in-Some.a
    (sym c.rle_of.ensures ∙ c.in-Some.is)) c.words.ensures

pub returns-in-None : goal.returns-in-None
returns-in-None c = let a = c.args in
    turned-away _ a.out.now c.unserved.result
    (words-view-other a.r a.t a.v.now (sym c.rle_of.ensures ∙ c.in-None.is)
    ∙ ap Err (sym c.unserved.ensures))
