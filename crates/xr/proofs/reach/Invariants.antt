-- `xr::reach` meets its contract: block n is where it stands, and each need cites a law of one turn.
use Rattle.xr.specs.Walks.{Walking}
use Rattle.xr.proofs.reach.Given as goal

abbrev pub invariant-loop-n : goal.invariant-loop-n
invariant-loop-n l = Walking l.s l.stop l.at l.n
