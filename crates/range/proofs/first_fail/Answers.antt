-- `range::first_fail` meets its contract: by the laws of `first_fail`. Assumes nothing.
use Rattle.range.proofs.FailLaws.{first-is, first-never, first-nowhere, first_fits}
use Rattle.range.specs.Failing.{gap_of}
use Rattle.range.specs.Inside.{ceil_div}
use Rattle.std.proofs.Common.{◌≡◌, ◌*◌, ◌^◌, ◌∙◌, arith}
use Rattle.range.proofs.first_fail.Goals as goal
use Rattle.range.proofs.first_fail.Goals.{After-again_from}

-- the distance that is tested
far : (f : After-again_from) → let a = f.args in
    f.times_two_to.result ≡ ceil_div (gap_of a.start a.end) (2 ^ a.thinning) * 2 ^ a.thinning
far f =
    let a = f.args in
    rw (← first_fits a.start a.end a.thinning (omega arith) (omega arith) f.if-thinning-ge16.false)
    (rw (← f.ceil_shift-q.ensures) f.times_two_to.ensures)

pub returns-then-thinning-ge16 : goal.returns-then-thinning-ge16
returns-then-thinning-ge16 c = let a = c.args in
    first-nowhere a.start a.end a.thinning (omega arith) (omega arith) c.if-thinning-ge16.true

pub returns-then-times_two_to-again_from : goal.returns-then-times_two_to-again_from
returns-then-times_two_to-again_from c = let a = c.args in
    let k = rw (far (goal.at.returns-then-times_two_to-again_from c).After-again_from, c.again_from.ensures) at c.if-times_two_to-again_from.true in
    c.ceil_shift-q.ensures ∙ first-is a.start a.end a.thinning (omega arith) (omega arith) k

pub returns-else-times_two_to-again_from : goal.returns-else-times_two_to-again_from
returns-else-times_two_to-again_from c = let a = c.args in
    let k = rw (far (goal.at.returns-else-times_two_to-again_from c).After-again_from, c.again_from.ensures) at c.if-times_two_to-again_from.false in
    first-never a.start a.end a.thinning (omega arith) (omega arith) k
