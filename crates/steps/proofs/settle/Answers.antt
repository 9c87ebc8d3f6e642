-- `steps::settle` meets its contract: open, passed or refused.
use Rattle.std.specs.Prelude.{Ok}
use mathlib.Core.Path.{◌≡◌, sym, ◌∙◌}
use native.Mathlib.Omega.{arith}
use lib.ListN.{length-append}
use Rattle.states.specs.Steps.{fault_of}
use Rattle.steps.proofs.WeightLaws.{weight-most}
use Rattle.steps.proofs.SettledLaws.{settled-open, events-open, settled-fine, events-over, events-more}
use Rattle.steps.proofs.SettledLaws.{settled-unfit, events-unfit}
use Rattle.steps.proofs.settle.Goals as goal
use Rattle.steps.proofs.settle.Goals.{In-Ok}

fine : (t : In-Ok) → fault_of t.args.st ≡ Ok tt
fine t =
    sym t.fault.ensures ∙ t.in-Ok.is

pub returns-then-st-ne0 : goal.returns-then-st-ne0
returns-then-st-ne0 c = let s = c.args.st in rw (settled-open s c.if-st-ne0.true, events-open s c.if-st-ne0.true)

pub overflow_add-result : goal.overflow_add-result
overflow_add-result c = omega (arith, c.weight-shown.ensures, weight-most c.args.st)

pub returns-then-next-eq-OVER : goal.returns-then-next-eq-OVER
returns-then-next-eq-OVER c = let z = c.if-st-ne0.false in
    let v = rw c.passed-next.ensures at c.if-next-eq-OVER.true in
    let s = c.args.st in
    rw (c.passed-next.ensures, c.weight-shown.ensures, settled-fine s z (fine (goal.at.returns-then-next-eq-OVER c).In-Ok), events-over s z (fine (goal.at.returns-then-next-eq-OVER c).In-Ok) v, length-append)

pub returns-else-next-eq-OVER : goal.returns-else-next-eq-OVER
returns-else-next-eq-OVER c = let z = c.if-st-ne0.false in
    let v = rw c.passed-next.ensures at c.if-next-eq-OVER.false in
    let s = c.args.st in
    rw (c.passed-next.ensures, c.weight-shown.ensures, settled-fine s z (fine (goal.at.returns-else-next-eq-OVER c).In-Ok), events-more s z (fine (goal.at.returns-else-next-eq-OVER c).In-Ok) v)

pub returns-in-Err : goal.returns-in-Err
returns-in-Err c = let s = c.args.st in
    let e = sym c.fault.ensures ∙ c.in-Err.is in
    rw (settled-unfit s c.if-st-ne0.false _ e, events-unfit s c.if-st-ne0.false _ e)
