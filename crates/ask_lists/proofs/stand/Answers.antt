-- `ask_lists::stand` meets its contract: whether three lists stand from an index on.
use Rattle.ask_lists.proofs.stand.Goals as goal

pub returns : goal.returns
returns c = let a = c.stands-3.ensures in
    let b = c.stands.ensures in
    let d = c.stands-2.ensures in
    let e = c.both-bc.ensures in
    rw (← a, ← b, ← d, ← e) c.both.ensures
