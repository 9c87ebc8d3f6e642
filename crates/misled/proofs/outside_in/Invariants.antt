-- `misled::outside_in` meets its contract: what the words cover, and a number for all of them. Assumes nothing.
use Rattle.misled.proofs.StretchTurn.{Gathering}
use Rattle.misled.proofs.outside_in.Given as goal

abbrev pub invariant-loop-k : goal.invariant-loop-k
invariant-loop-k l = Gathering l.body l.from l.start l.k l.p l.ones
