-- `portions::follow` meets its contract: all of its bytes are taken, or none.
use Rattle.std.specs.Prelude.{Ok}
use mathlib.Core.Path.{◌≡◌, sym, ap, ◌∙◌}
use Rattle.def_portions.specs.Lists.{room_in}
use Rattle.states.specs.Call.{call_fault}
use Rattle.portions.proofs.CallLaws.{room-fine, following, unmoved}
use Rattle.portions.proofs.follow.Goals as goal
use Rattle.portions.proofs.follow.Goals.{After-call_fault, In-Ok}

asked : (f : After-call_fault) → let a = f.args in
    f.call_fault.result
    ≡ call_fault a.st a.x.now (room_in a.tags.now a.numbers.now a.values.now a.sums.now)
asked f = f.call_fault.ensures ∙ ap (call_fault f.args.st f.args.x.now) f.room_in.ensures

taken : (t : In-Ok) → let a = t.args in
    call_fault a.st a.x.now (room_in a.tags.now a.numbers.now a.values.now a.sums.now) ≡ Ok tt
taken t =
    let e = t.call_fault.ensures ∙ ap (call_fault t.args.st t.args.x.now) t.room_in.ensures in
    sym e ∙ t.in-Ok.is

pub store-r-requires : goal.store-r-requires
store-r-requires c = room-fine c.args.st c.args.x.now _ (taken (goal.at.store-r-requires c).In-Ok)

pub returns-in-Ok : goal.returns-in-Ok
returns-in-Ok c = following (taken (goal.at.returns-in-Ok c).In-Ok) c.store-r.ensures.state_value c.fault.ensures
    c.store-r.ensures.laid

pub returns-in-Err : goal.returns-in-Err
returns-in-Err c = unmoved (sym (asked (goal.at.returns-in-Err c).After-call_fault) ∙ c.in-Err.is)
