-- `summary::summary` meets its contract: 10, 7.
use Rattle.laws.proofs.Passing.{handed-on}
use mathlib.Core.Path.{sym, ◌∙◌}
use Rattle.summary.proofs.SummaryLaws.{summary-shown, summary-unfit}
use Rattle.summary.proofs.summary.Goals as goal

pub returns : goal.returns
returns c = let a = c.args in
    rw c.summary_at.ensures (summary-shown a.r a.v.now
    (sym c.check_statistics.ensures ∙ c.in_ok-check_statistics.was))

pub returns-in_err-check_statistics : goal.returns-in_err-check_statistics
returns-in_err-check_statistics c = let a = c.args in
    rw (handed-on _ _ c.from_residual.ensures) (summary-unfit a.r a.v.now c.in_err-check_statistics.field-0.0 (sym c.check_statistics.ensures ∙ c.in_err-check_statistics.was))
