-- `block_events::put_entries` meets its contract: what is still to be stored are the entries from the next one on.
-- Assumes nothing.
use Rattle.block_events.proofs.EntriesTurn.{Echoing}
use Rattle.block_events.proofs.put_entries.Given as goal

abbrev pub invariant-loop-left : goal.invariant-loop-left
invariant-loop-left l =
    Echoing l.v l.n l.initial.tags l.initial.values l.tags l.values l.left l.at l.i

abbrev pub decreases-loop-left : goal.decreases-loop-left
decreases-loop-left l =
    l.left
