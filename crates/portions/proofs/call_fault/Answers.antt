-- `portions::call_fault` meets its contract: one that stays, 19, 11.
use mathlib.Core.Path.{sym, ◌∙◌}
use native.Mathlib.Omega.{arith}
use Rattle.laws.proofs.Passing.{handed-on}
use Rattle.portions.proofs.PastLaws.{past-few}
use Rattle.portions.proofs.CallLaws.{call_stays, call-past, call-room}
use Rattle.portions.proofs.call_fault.Goals as goal

pub too_little-requires : goal.too_little-requires
too_little-requires c = let e = sym c.past_end.ensures ∙ c.in_ok-past_end.was in
    past-few c.args.st c.args.x.now (omega (arith, c.well_formed)) e

pub returns : goal.returns
returns c = let a = c.args in
    c.too_little.ensures
    ∙ call-room a.st a.x.now a.room (sym c.fault.ensures ∙ c.in_ok-fault.was)
    (sym c.past_end.ensures ∙ c.in_ok-past_end.was)

pub returns-in_err-past_end : goal.returns-in_err-past_end
returns-in_err-past_end c = let a = c.args in
    rw (handed-on _ _ c.from_residual-in_err-past_end.ensures)
    (call-past a.st a.x.now a.room _ (sym c.fault.ensures ∙ c.in_ok-fault.was)
    (sym c.past_end.ensures ∙ c.in_err-past_end.was))

pub returns-in_err-fault : goal.returns-in_err-fault
returns-in_err-fault c = let a = c.args in
    rw (handed-on _ _ c.from_residual.ensures)
    (call_stays a.st a.x.now a.room _ (sym c.fault.ensures ∙ c.in_err-fault.was))
