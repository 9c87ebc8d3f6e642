-- `by_number::words` meets its contract: block k's chunk words, asked by a number.
use Rattle.std.specs.Prelude.{Err}
use Rattle.by_number.proofs.ByLaws.{words-served, words-other}
use Rattle.numbers.proofs.AskedLaws.{listed-as}
use Rattle.laws.proofs.Answering.{turned-away}
use mathlib.Core.Path.{sym, ap, ◌∙◌}
use Rattle.by_number.proofs.words.Goals as goal

pub returns-in-Some : goal.returns-in-Some
returns-in-Some c = let a = c.args in
    listed-as (words-served a.r a.s.now a.k a.t c.in-Some.a
    (sym c.rle_of.ensures ∙ c.in-Some.is)) c.words_in.ensures

pub returns-in-None : goal.returns-in-None
returns-in-None c = let a = c.args in
    turned-away _ a.out.now c.other.result
    (words-other a.r a.s.now a.k a.t (sym c.rle_of.ensures ∙ c.in-None.is)
    ∙ ap Err (sym c.other.ensures))
