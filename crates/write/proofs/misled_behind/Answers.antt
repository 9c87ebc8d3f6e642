-- `write::misled_behind` meets its contract: each need cites a law of one turn.
use native.Mathlib.Omega.{arith}
use mathlib.Core.Path.{◌≡◌, sym, ◌∙◌}
use Prim.Native.Nat.{◌+◌}
use lib.ListN.{length, drop}
use Rattle.jobs.specs.Places.{next_job, jobs_behind}
use Rattle.write.proofs.AheadLaws.{whole, past}
use Rattle.write.proofs.MisledTurn.{begun, room, found, turned, finished}
use Rattle.write.proofs.misled_behind.Goals as goal
use Rattle.write.proofs.misled_behind.Goals.{After-whole_body-body}

-- the next record begins behind the body
next : (c : After-whole_body-body) → let a = c.args in
    next_job a.list.now c.loop-at.at ≡ c.loop-at.at + (6 + length c.whole_body-body.result.now)
next c =
    let a = c.args in
    past a.list.now c.loop-at.at c.loop-at.invariant.good c.loop-at-test.true c.whole_body-body.result.now
    c.whole_body-body.ensures

pub loop-at-init : goal.loop-at-init
loop-at-init c = let a = c.args in
    begun a.list.now a.from a.bytes c.requires.0 c.requires.1 c.requires.2

pub whole_body-body-requires : goal.whole_body-body-requires
whole_body-body-requires c = let a = c.args in
    whole a.list.now c.loop-at.at c.loop-at.invariant.good c.loop-at-test.true

pub whole_kind-kind-requires : goal.whole_kind-kind-requires
whole_kind-kind-requires c = let a = c.args in
    whole a.list.now c.loop-at.at c.loop-at.invariant.good c.loop-at-test.true

pub overflow_sub-behind : goal.overflow_sub-behind
overflow_sub-behind c = let a = c.args in
    room a.list.now (jobs_behind (drop a.from a.list.now)) c.loop-at.at c.loop-at.behind c.loop-at.k
    c.loop-at.invariant c.loop-at-test.true c.whole_kind-kind.result c.whole_body-body.result.now c.whole_kind-kind.ensures
    c.whole_body-body.ensures c.block_size-behind.result c.block_size-behind.ensures

pub returns-then-misled : goal.returns-then-misled
returns-then-misled c = let a = c.args in
    found a.list.now (jobs_behind (drop a.from a.list.now)) c.loop-at.at c.loop-at.behind c.loop-at.k
    c.loop-at.invariant c.loop-at-test.true c.whole_kind-kind.result c.whole_body-body.result.now c.whole_kind-kind.ensures
    c.whole_body-body.ensures c.block_size-behind.result c.block_size-behind.ensures
    (sym c.misled.ensures ∙ c.if-misled.true)

pub overflow_add-k : goal.overflow_add-k
overflow_add-k c = omega (arith, c.loop-at.invariant.few, c.loop-at-test.true)

pub overflow_add-at : goal.overflow_add-at
overflow_add-at c = omega (arith, next (goal.at.overflow_add-at c).After-whole_body-body)

pub overflow_add-at-in-loop-at : goal.overflow_add-at-in-loop-at
overflow_add-at-in-loop-at c = omega (arith, next (goal.at.overflow_add-at-in-loop-at c).After-whole_body-body)

pub loop-at-smaller : goal.loop-at-smaller
loop-at-smaller c = omega (arith, next (goal.at.loop-at-smaller c).After-whole_body-body, c.loop-at-test.true)

pub loop-at-preserved : goal.loop-at-preserved
loop-at-preserved c = let a = c.args in
    rw (← next (goal.at.loop-at-preserved c).After-whole_body-body)
    (turned a.list.now (jobs_behind (drop a.from a.list.now)) c.loop-at.at c.loop-at.behind c.loop-at.k
    c.loop-at.invariant c.loop-at-test.true c.whole_kind-kind.result c.whole_body-body.result.now c.whole_kind-kind.ensures
    c.whole_body-body.ensures c.block_size-behind.result c.block_size-behind.ensures
    (sym c.misled.ensures ∙ c.if-misled.false))

pub returns : goal.returns
returns c = let a = c.args in
    finished a.list.now (jobs_behind (drop a.from a.list.now)) c.loop-at.at c.loop-at.behind c.loop-at.k
    c.loop-at.invariant c.loop-at-test.false
