-- `dlrr::store` meets its contract: stores n entries from the front of each list.
use Rattle.dlrr.proofs.EntriesTurn.{Storing}
use Rattle.dlrr.proofs.store.Given as goal

abbrev pub invariant-loop-i : goal.invariant-loop-i
invariant-loop-i l = Storing l.v l.initial.ssrcs l.initial.lasts l.initial.delays l.ssrcs l.lasts l.delays l.i
