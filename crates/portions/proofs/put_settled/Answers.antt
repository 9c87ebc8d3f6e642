-- `portions::put_settled` meets its contract: open, passed with its events stored, or refused.
use Rattle.std.specs.Prelude.{Ok}
use Prim.Native.Nat.{◌+◌}
use mathlib.Core.Path.{◌≡◌, sym, ap, ◌∙◌}
use native.Mathlib.Omega.{arith}
use lib.ListN.{length, length-append}
use Rattle.event_lists.proofs.LaidLaws.{laid_none, laid_as, and_then, same-room}
use Rattle.states.specs.Steps.{fault_of, passed, shown_by, settled_events, end_in}
use Rattle.steps.proofs.SettledLaws.{settled-open, events-open, settled-fine, events-fine, settled-unfit, events-unfit}
use Rattle.portions.proofs.put_settled.Goals as goal
use Rattle.portions.proofs.put_settled.Goals.{In-Ok}

fine : (t : In-Ok) → fault_of t.args.st ≡ Ok tt
fine t = sym t.fault.ensures ∙ t.in-Ok.is

-- its events, and the packet's end
weight : (t : In-Ok) → let s = t.args.st in
    length (settled_events s) ≡ length (shown_by s) + length (end_in (passed s))
weight t =
    let s = t.args.st in
    ap length (events-fine s t.if-st-ne0.false (fine t)) ∙ length-append (shown_by s) (end_in (passed s))

pub returns-then-st-ne0 : goal.returns-then-st-ne0
returns-then-st-ne0 c =
    let s = c.args.st in
    record {
      state_value = sym (settled-open s c.if-st-ne0.true);
      laid = laid_as (sym (events-open s c.if-st-ne0.true)) laid_none;
    }

pub put_item-past-requires : goal.put_item-past-requires
put_item-past-requires c = omega (arith, c.requires, weight (goal.at.put_item-past-requires c).In-Ok)

pub put_end-end-requires : goal.put_end-end-requires
put_end-end-requires c =
    let l = c.put_item-past.ensures in
    let e = ap (λ q. length (end_in q)) c.passed-next.ensures in
    rw (same-room l) (omega (arith, c.requires, weight (goal.at.put_end-end-requires c).In-Ok, e, l.past))

pub returns-in-Ok : goal.returns-in-Ok
returns-in-Ok c =
    let s = c.args.st in
    let f = fine (goal.at.returns-in-Ok c).In-Ok in
    let l = laid_as (ap end_in c.passed-next.ensures) c.put_end-end.ensures in
    record {
      state_value = c.passed-next.ensures ∙ sym (settled-fine s c.if-st-ne0.false f);
      laid = laid_as (sym (events-fine s c.if-st-ne0.false f)) (and_then c.put_item-past.ensures l);
    }

pub returns-in-Err : goal.returns-in-Err
returns-in-Err c =
    let s = c.args.st in
    let e = sym c.fault.ensures ∙ c.in-Err.is in
    record {
      state_value = sym (settled-unfit s c.if-st-ne0.false _ e);
      laid = laid_as (sym (events-unfit s c.if-st-ne0.false _ e)) laid_none;
    }
