-- `summary::summary_in` meets its contract: of block k of a packet.
use Rattle.laws.proofs.Passing.{handed-on}
use Prim.Native.Nat.{ℕ}
use mathlib.Core.List.{List}
use mathlib.Core.Path.{sym, ap, ◌∙◌}
use Rattle.def_wire.specs.Summary.{summary_of}
use Rattle.summary.proofs.SummaryLaws.{summary-asked, summary-missing}
use Rattle.summary.proofs.summary_in.Goals as goal

pub returns : goal.returns
returns c = let a = c.args in
    c.summary.ensures ∙ ap (λ (v : List ℕ). summary_of a.r v) c.part.ensures.result_value
    ∙ summary-asked a.r a.s.now a.k c.in_ok-at.at c.in_ok-at.n
    (sym c.locate.ensures ∙ c.in_ok-at.was)

pub returns-in_err-at : goal.returns-in_err-at
returns-in_err-at c = let a = c.args in
    rw (handed-on _ _ c.from_residual.ensures) (summary-missing a.r a.s.now a.k c.in_err-at.field-0.0 (sym c.locate.ensures ∙ c.in_err-at.was))
