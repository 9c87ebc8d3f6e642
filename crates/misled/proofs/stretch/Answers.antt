-- `misled::stretch` meets its contract: words inside the range, words outside it without ones, or none.
-- Assumes nothing.
use Rattle.std.proofs.Common.{◌+◌, ◌*◌, ◌≤◌, length, arith}
use Rattle.misled.specs.Known.{Over}
use Rattle.misled.proofs.StretchTurn.{over_none}
use Rattle.misled.proofs.stretch.Goals as goal
use Rattle.misled.proofs.stretch.Goals.{After-min-n}

-- the words that are tried are there
room : (n : After-min-n) → let a = n.args in
    a.at + 2 * n.min-n.result ≤ length a.body.now
room n =
    omega (arith, n.min-n.ensures, n.requires)

none : (n : After-min-n) → let a = n.args in
    Over a.body.now a.left a.p a.at a.left a.p a.at
none n =
    let a = n.args in
    over_none a.body.now a.left a.p a.at n.requires (omega arith)

pub returns-else-s-lt16384 : goal.returns-else-s-lt16384
returns-else-s-lt16384 c = none (goal.at.returns-else-s-lt16384 c).After-min-n

pub returns-else-c-left : goal.returns-else-c-left
returns-else-c-left c = none (goal.at.returns-else-c-left c).After-min-n
