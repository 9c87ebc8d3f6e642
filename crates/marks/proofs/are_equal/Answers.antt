-- `marks::are_equal` meets its contract: four loads, each four times the first mark.
use mathlib.Core.Path.{sym, ◌∙◌}
use native.Mathlib.Omega.{arith}
use Rattle.marks.proofs.RunLaws.{not-run, not-run-first, last-load}
use Rattle.marks.proofs.are_equal.Goals as goal

pub returns-then-load32-all : goal.returns-then-load32-all
returns-then-load32-all c = let a = c.args in
    sym (not-run-first a.marks.now a.at
    (λ e. c.if-load32-all.true (c.load32.ensures ∙ e ∙ sym c.four_of-all.ensures)))

pub returns-then-load32-all-2 : goal.returns-then-load32-all-2
returns-then-load32-all-2 c = let a = c.args in
    sym (not-run a.marks.now a.at 4 (omega arith)
    (λ e. c.if-load32-all-2.true (c.load32-2.ensures ∙ e ∙ sym c.four_of-all.ensures)))

pub returns-then-load32-all-3 : goal.returns-then-load32-all-3
returns-then-load32-all-3 c = let a = c.args in
    sym (not-run a.marks.now a.at 8 (omega arith)
    (λ e. c.if-load32-all-3.true (c.load32-3.ensures ∙ e ∙ sym c.four_of-all.ensures)))

pub returns : goal.returns
returns c = let all = c.four_of-all.ensures in
    last-load c.args.marks.now c.args.at c.requires.0 c.requires.1
    (sym c.load32.ensures ∙ c.if-load32-all.false ∙ all) (sym c.load32-2.ensures ∙ c.if-load32-all-2.false ∙ all)
    (sym c.load32-3.ensures ∙ c.if-load32-all-3.false ∙ all) c.load32-4.ensures all
