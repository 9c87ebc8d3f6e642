-- `ask_portions::calls_into` meets its contract: what was added so far and what is still to come make up the whole.
-- Assumes nothing.
use Rattle.ask_portions.proofs.CallsTurn.{Underway}
use Rattle.ask_portions.proofs.calls_into.Given as goal

abbrev pub invariant-loop-i : goal.invariant-loop-i
invariant-loop-i l =
    Underway l.p l.n l.x l.initial.tags l.initial.numbers l.initial.values l.initial.sums l.initial.buf l.at l.tags l.numbers l.values l.sums l.buf l.st l.from l.to l.i
