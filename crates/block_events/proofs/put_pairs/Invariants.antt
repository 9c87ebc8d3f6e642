-- `block_events::put_pairs` meets its contract: what is still to be stored are the pairs from the next time on.
-- Assumes nothing.
use Rattle.packet_receipt_time.proofs.PairsTurn.{rest_at}
use Rattle.block_events.proofs.PairsTurn.{Pairing}
use Rattle.block_events.proofs.put_pairs.Given as goal

abbrev pub invariant-loop-left : goal.invariant-loop-left
invariant-loop-left l =
    Pairing l.v l.step (rest_at l.v l.step l.first l.count 12) l.n l.initial.tags l.initial.numbers l.initial.values l.tags l.numbers l.values l.left l.at l.i l.x

abbrev pub decreases-loop-left : goal.decreases-loop-left
decreases-loop-left l =
    l.left
