-- `steps::weight` meets its contract: a word's ones, or at most one event.
use mathlib.Core.Path.{sym, ◌∙◌}
use Rattle.steps.proofs.WeightLaws.{weight-word, weight-lone}
use Rattle.steps.proofs.weight.Goals as goal

pub returns-then-st-eq-WORD : goal.returns-then-st-eq-WORD
returns-then-st-eq-WORD c = rw (c.ones_before.ensures, c.low16.ensures) (weight-word c.args.st c.if-st-eq-WORD.true)

pub returns-in-Some : goal.returns-in-Some
returns-in-Some c = weight-lone c.args.st _ c.if-st-eq-WORD.false (sym c.lone.ensures ∙ c.in-Some.is)

pub returns-in-None : goal.returns-in-None
returns-in-None c = weight-lone c.args.st _ c.if-st-eq-WORD.false (sym c.lone.ensures ∙ c.in-None.is)
