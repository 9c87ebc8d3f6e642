-- `ask_portions::one` meets its contract: the events are read back from the lists. Assumes nothing.
use native.Mathlib.Omega.{arith}
use Rattle.ask_portions.proofs.InRangeLaws.{Bounded}
use Rattle.ask_portions.proofs.ToldLaws.{telling}
use Rattle.ask_portions.proofs.one.Goals as goal
use Rattle.ask_portions.proofs.one.Goals.{Start}

-- by the types of its fields
bounded : (s : Start) → Bounded s.args.st
bounded s =
    record { announced = omega arith; whose = omega arith; next = omega arith }

pub returns : goal.returns
returns c = telling c.follow-r.ensures (bounded (goal.at.returns c).Start) c.event_lines-n.ensures c.ending.ensures
