-- `misled::covered_in` meets its contract: low and high bytes are added apart. Assumes nothing.
use Rattle.misled.proofs.StretchTurn.{Adding}
use Rattle.misled.proofs.covered_in.Given as goal

abbrev pub invariant-loop-k : goal.invariant-loop-k
invariant-loop-k l = Adding l.body l.from l.k l.low l.high
