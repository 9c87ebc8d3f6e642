-- `packet_receipt_time::pairs_in` meets its contract: the pairs of block k of a packet.
use Rattle.laws.proofs.Passing.{handed-on}
use Rattle.packet_receipt_time.proofs.PairsAnswers.{pairs-asked, pairs-missing, pairs-refused, pairs-as}
use Rattle.def_questions.specs.Questions.{pairs_shown}
use Rattle.std.proofs.Common.{ℕ, List, sym, ap, ◌∙◌}
use Rattle.packet_receipt_time.proofs.pairs_in.Goals as goal

pub returns : goal.returns
returns c = let a = c.args in
    pairs-as
    (ap (λ (v : List ℕ). pairs_shown a.r v) c.part.ensures.result_value
    ∙ pairs-asked a.r a.s.now a.k c.in_ok-at.at c.in_ok-at.n
    (sym c.locate.ensures ∙ c.in_ok-at.was))
    c.pairs.ensures

pub returns-in_err-at : goal.returns-in_err-at
returns-in_err-at c = let a = c.args in
    rw (handed-on _ _ c.from_residual.ensures) (pairs-refused _ a.numbers.now a.times.now c.in_err-at.field-0.0
    (pairs-missing a.r a.s.now a.k c.in_err-at.field-0.0 (sym c.locate.ensures ∙ c.in_err-at.was)))
