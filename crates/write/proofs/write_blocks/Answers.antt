-- `write::write_blocks` meets its contract: each need cites a law of one turn.
use native.Mathlib.Omega.{arith}
use mathlib.Core.Path.{◌≡◌}
use Prim.Native.Nat.{◌+◌}
use lib.ListN.{length, drop}
use Rattle.jobs.specs.Places.{next_job, jobs_behind}
use Rattle.write.proofs.AheadLaws.{whole, past, block}
use Rattle.write.proofs.BlocksTurn.{begun, room, turned, finished}
use Rattle.write.proofs.write_blocks.Goals as goal
use Rattle.write.proofs.write_blocks.Goals.{After-whole_body-body}

-- the next record begins behind the body
next : (c : After-whole_body-body) → let a = c.args in
    next_job a.list.now c.loop-at.at ≡ c.loop-at.at + (6 + length c.whole_body-body.result.now)
next c =
    let a = c.args in
    past a.list.now c.loop-at.at c.loop-at.invariant.good c.loop-at-test.true
    c.whole_body-body.result.now c.whole_body-body.ensures

pub loop-at-init : goal.loop-at-init
loop-at-init c = let a = c.args in
    begun a.layout a.list.now a.out.now a.from a.start c.requires.0 c.requires.1 c.requires.2

pub whole_body-body-requires : goal.whole_body-body-requires
whole_body-body-requires c = let a = c.args in
    whole a.list.now c.loop-at.at c.loop-at.invariant.good c.loop-at-test.true

pub whole_kind-requires : goal.whole_kind-requires
whole_kind-requires c = let a = c.args in
    whole a.list.now c.loop-at.at c.loop-at.invariant.good c.loop-at-test.true

pub write_block-n-requires : goal.write_block-n-requires
write_block-n-requires c = let a = c.args in (
  block a.list.now c.loop-at.at c.loop-at.invariant.good c.loop-at-test.true
      c.whole_kind.result c.whole_body-body.result.now c.whole_kind.ensures c.whole_body-body.ensures,
  room a.layout a.list.now (jobs_behind (drop a.from a.list.now)) a.out.now a.start
      c.loop-at.out c.loop-at.at c.loop-at.n c.loop-at.invariant c.loop-at-test.true
      c.whole_kind.result c.whole_body-body.result.now c.whole_kind.ensures c.whole_body-body.ensures,
)

pub overflow_add-at : goal.overflow_add-at
overflow_add-at c = omega (arith, next (goal.at.overflow_add-at c).After-whole_body-body)

pub overflow_add-at-in-loop-at : goal.overflow_add-at-in-loop-at
overflow_add-at-in-loop-at c = omega (arith, next (goal.at.overflow_add-at-in-loop-at c).After-whole_body-body)

pub loop-at-smaller : goal.loop-at-smaller
loop-at-smaller c = let a = c.args in
    omega (arith, next (goal.at.loop-at-smaller c).After-whole_body-body, c.loop-at-test.true)

pub loop-at-preserved : goal.loop-at-preserved
loop-at-preserved c = let a = c.args in
    rw (← next (goal.at.loop-at-preserved c).After-whole_body-body)
    (turned a.layout a.list.now (jobs_behind (drop a.from a.list.now)) a.out.now a.start
    c.loop-at.out c.loop-at.at c.loop-at.n c.loop-at.invariant c.loop-at-test.true
    c.whole_kind.result c.whole_body-body.result.now c.whole_kind.ensures c.whole_body-body.ensures _ _
    c.write_block-n.ensures)

pub shape_of-out : goal.shape_of-out
shape_of-out c = c.loop-at.invariant.state.same

pub returns : goal.returns
returns c = let a = c.args in
    finished a.layout a.list.now (jobs_behind (drop a.from a.list.now)) a.out.now a.start
    c.loop-at.out c.loop-at.at c.loop-at.n c.loop-at.invariant c.loop-at-test.false
