-- `marks::taken` meets its contract: a run's length, or 15.
use mathlib.Core.Path.{sym, ◌∙◌}
use Rattle.marks.proofs.NextLaws.{taken-of-run, taken-of-vector}
use Rattle.marks.proofs.taken.Goals as goal

pub returns-then-is_run : goal.returns-then-is_run
returns-then-is_run c = taken-of-run c.args.marks.now c.args.at (sym c.is_run.ensures ∙ c.if-is_run.true)
    c.run_length.ensures

pub returns : goal.returns
returns c = taken-of-vector c.args.marks.now c.args.at (sym c.is_run.ensures ∙ c.if-is_run.false)
