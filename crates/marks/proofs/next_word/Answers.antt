-- `marks::next_word` meets its contract: a run, or a vector of fifteen bits.
use mathlib.Core.Path.{sym, ◌∙◌}
use native.Mathlib.Omega.{arith}
use lib.ListN.{drop}
use Rattle.marked.proofs.BitsLaws.{marks-drop, bits_below}
use Rattle.marks.proofs.NextLaws.{next-run, next-vector}
use Rattle.marks.proofs.next_word.Goals as goal

pub returns-then-is_run : goal.returns-then-is_run
returns-then-is_run c = next-run c.args.marks.now c.args.at (sym c.is_run.ensures ∙ c.if-is_run.true) c.run_length-n.ensures

pub overflow_add-result-2 : goal.overflow_add-result-2
overflow_add-result-2 c = let a = c.args in
    omega (
      arith,
      c.fifteen_bits.ensures,
      bits_below 15 (drop a.at a.marks.now) (marks-drop a.at a.marks.now c.requires.0),
    )

pub returns : goal.returns
returns c = next-vector c.args.marks.now c.args.at (sym c.is_run.ensures ∙ c.if-is_run.false)
    c.fifteen_bits.ensures
