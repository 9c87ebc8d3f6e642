-- `numbers::numbers_in` meets its contract: the numbers of block k of a packet.
use Rattle.numbers.proofs.AskedLaws.{numbers-asked, numbers-missing, listed-as}
use Rattle.laws.proofs.Passing.{handed-on}
use Rattle.laws.proofs.Answering.{turned-away}
use Rattle.def_questions.specs.Questions.{numbers_shown}
use Prim.Native.Nat.{ℕ}
use mathlib.Core.List.{List}
use mathlib.Core.Path.{sym, ap, ◌∙◌}
use Rattle.numbers.proofs.numbers_in.Goals as goal

pub returns : goal.returns
returns c = let a = c.args in
    listed-as
    (ap (λ (v : List ℕ). numbers_shown a.r a.a v) c.part.ensures.result_value
    ∙ numbers-asked a.r a.s.now a.k a.a c.in_ok-at.at c.in_ok-at.n
    (sym c.locate.ensures ∙ c.in_ok-at.was))
    c.numbers.ensures

pub returns-in_err-at : goal.returns-in_err-at
returns-in_err-at c = let a = c.args in
    rw (handed-on _ _ c.from_residual.ensures) (turned-away _ a.out.now c.in_err-at.field-0.0
    (numbers-missing a.r a.s.now a.k a.a c.in_err-at.field-0.0 (sym c.locate.ensures ∙ c.in_err-at.was)))
