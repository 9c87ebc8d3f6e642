-- `block_events::put_pairs` meets its contract: what is still to be stored are the pairs from the next time on.
-- Assumes nothing.
use Rattle.std.proofs.Common.{arith}
use Rattle.block_events.proofs.PairsTurn.{begun, time-there, turned, pairs-stored}
use Rattle.block_events.proofs.put_pairs.Goals as goal

pub loop-left-init : goal.loop-left-init
loop-left-init c = let a = c.args in
    begun a.v.now a.step a.first a.count a.n a.tags.now a.numbers.now a.values.now
    c.requires.count_in_bounds c.requires.count_bound

pub bounds-tags-i : goal.bounds-tags-i
bounds-tags-i c = omega (arith, c.loop-left.invariant.room, c.loop-left-test.true)

pub bounds-numbers-i : goal.bounds-numbers-i
bounds-numbers-i c = omega (arith, c.loop-left.invariant.room, c.loop-left-test.true)

pub load32-requires : goal.load32-requires
load32-requires c = time-there c.loop-left.invariant c.loop-left-test.true

pub bounds-values-i : goal.bounds-values-i
bounds-values-i c = omega (arith, c.loop-left.invariant.room, c.loop-left-test.true)

pub overflow_add-at : goal.overflow_add-at
overflow_add-at c = omega (
  arith,
  time-there c.loop-left.invariant c.loop-left-test.true,
  c.well_formed,
)

pub overflow_add-i : goal.overflow_add-i
overflow_add-i c = let p = c.loop-left.invariant in
    omega (
      arith,
      p.room,
      p.same-tags,
      c.loop-left-test.true,
      c.well_formed,
    )

pub loop-left-smaller : goal.loop-left-smaller
loop-left-smaller c = omega (arith, c.loop-left-test.true)

pub loop-left-preserved : goal.loop-left-preserved
loop-left-preserved c = turned c.loop-left.invariant c.loop-left-test.true c.load32.result c.wrapping_add_u16-x.result
    c.load32.ensures c.wrapping_add_u16-x.ensures.value

pub returns : goal.returns
returns c = pairs-stored c.loop-left.invariant c.loop-left-test.false
