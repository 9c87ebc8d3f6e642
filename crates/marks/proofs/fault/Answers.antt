-- `marks::fault` meets its contract: 14 before 17.
use mathlib.Core.Path.{sym, ◌∙◌}
use native.Mathlib.Omega.{arith}
use Rattle.marked.proofs.FaultLaws.{fault-many, fault-few}
use Rattle.marks.proofs.fault.Goals as goal

pub returns-then-marks-gt-MAX_MARKS : goal.returns-then-marks-gt-MAX_MARKS
returns-then-marks-gt-MAX_MARKS c = sym (fault-many c.args.marks.now c.if-marks-gt-MAX_MARKS.true)

pub returns : goal.returns
returns c = c.judge.ensures ∙ sym (fault-few c.args.marks.now (omega (arith, c.if-marks-gt-MAX_MARKS.false)))
