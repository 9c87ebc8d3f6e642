-- `portions::put_some` meets its contract.
use Rattle.portions.proofs.TurnLaws.{Taken, taken, some-room, some_stored}
use Rattle.portions.proofs.put_some.Goals as goal
use Rattle.portions.proofs.put_some.Goals.{After-min-m}

bytes : (m : After-min-m) → let a = m.args in Taken a.s a.x.now a.at m.min-m.result
bytes m = taken _ _ _ _ m.requires.fact.0 m.requires.fact.1 m.min-m.ensures

pub put_settled-r-requires : goal.put_settled-r-requires
put_settled-r-requires c =
    rw c.hold.ensures (some-room (bytes (goal.at.put_settled-r-requires c).After-min-m) _ _ c.requires.x_bound)

pub returns : goal.returns
returns c =
    let e = rw c.hold.ensures at c.put_settled-r.ensures in
    some_stored (bytes (goal.at.returns c).After-min-m) e.state_value e.laid
