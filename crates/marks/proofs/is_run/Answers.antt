-- `marks::is_run` meets its contract: fifteen marks are there, and equal.
use mathlib.Core.Path.{sym}
use native.Mathlib.Omega.{arith}
use Rattle.marks.proofs.RunLaws.{short-run}
use Rattle.marks.proofs.is_run.Goals as goal

pub returns : goal.returns
returns c = sym (short-run c.args.marks.now c.args.at (omega (arith, c.if-at-marks.false)))
