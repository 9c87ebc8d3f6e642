-- `numbers::words_in` meets its contract: the chunk words of block k of a packet.
use Rattle.numbers.proofs.AskedLaws.{words-asked, words-missing, listed-as}
use Rattle.laws.proofs.Passing.{handed-on}
use Rattle.laws.proofs.Answering.{turned-away}
use Rattle.def_questions.specs.Questions.{words_shown}
use Prim.Native.Nat.{ℕ}
use mathlib.Core.List.{List}
use mathlib.Core.Path.{sym, ap, ◌∙◌}
use Rattle.numbers.proofs.words_in.Goals as goal

pub returns : goal.returns
returns c = let a = c.args in
    listed-as
    (ap (λ (v : List ℕ). words_shown a.r a.a v) c.part.ensures.result_value
    ∙ words-asked a.r a.s.now a.k a.a c.in_ok-at.at c.in_ok-at.n
    (sym c.locate.ensures ∙ c.in_ok-at.was))
    c.words.ensures

pub returns-in_err-at : goal.returns-in_err-at
returns-in_err-at c = let a = c.args in
    rw (handed-on _ _ c.from_residual.ensures) (turned-away _ a.out.now c.in_err-at.field-0.0
    (words-missing a.r a.s.now a.k a.a c.in_err-at.field-0.0 (sym c.locate.ensures ∙ c.in_err-at.was)))
