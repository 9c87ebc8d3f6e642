-- `misled::goes_on` meets its contract: stretch by stretch or word by word, up to the first one outside the range.
-- Assumes nothing.
use Rattle.std.proofs.Common.{◌-◌, length}
use Rattle.misled.proofs.WordsTurn.{Passing}
use Rattle.misled.proofs.goes_on.Given as goal

abbrev pub invariant-loop-at : goal.invariant-loop-at
invariant-loop-at l =
    Passing l.g l.end l.body l.left l.p l.at

abbrev pub decreases-loop-at : goal.decreases-loop-at
decreases-loop-at l =
    length l.body - l.at
