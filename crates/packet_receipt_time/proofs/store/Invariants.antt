-- `packet_receipt_time::store` meets its contract: stores n pairs from the front of both lists.
use Rattle.packet_receipt_time.proofs.PairsTurn.{Storing}
use Rattle.packet_receipt_time.proofs.store.Given as goal

abbrev pub invariant-loop-i : goal.invariant-loop-i
invariant-loop-i l = Storing l.v l.first l.step l.n l.initial.numbers l.initial.times l.numbers l.times l.i l.x
