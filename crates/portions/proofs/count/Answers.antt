-- `portions::count` meets its contract: what was counted so far and what is still to come make up the whole.
use native.Mathlib.Omega.{arith}
use Rattle.portions.proofs.StoreTurn.{count-begun, count_room, count-onward, count-ended}
use Rattle.portions.proofs.StoreTurn.{count-closed}
use Rattle.portions.proofs.count.Goals as goal

pub loop-at-init : goal.loop-at-init
loop-at-init c = count-begun

pub returns-then-s-eq0 : goal.returns-then-s-eq0
returns-then-s-eq0 c = count-closed c.loop-at.invariant c.if-s-eq0.true

pub count_turn-r-requires : goal.count_turn-r-requires
count_turn-r-requires c =
    record {
      x_len_bound = omega (arith, c.requires, c.loop-at.invariant.rest);
      fact = (c.if-s-eq0.false, c.loop-at-test.true);
    }

pub overflow_add-n : goal.overflow_add-n
overflow_add-n c = omega (arith, c.requires, count_room c.loop-at.invariant c.count_turn-r.ensures)

pub overflow_add-at : goal.overflow_add-at
overflow_add-at c = omega (arith, c.well_formed, c.count_turn-r.ensures.turn.fits)

pub loop-at-smaller : goal.loop-at-smaller
loop-at-smaller c = let k = c.count_turn-r.ensures.turn in omega (arith, k.fits, k.some)

pub loop-at-preserved : goal.loop-at-preserved
loop-at-preserved c = count-onward c.loop-at.invariant c.count_turn-r.ensures

pub returns : goal.returns
returns c = count-ended c.loop-at.invariant c.loop-at-test.false
