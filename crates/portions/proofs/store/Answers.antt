-- `portions::store` meets its contract: what was stored so far and what is still to come make up the whole.
use native.Mathlib.Omega.{arith}
use Rattle.event_lists.proofs.LaidLaws.{same-tags, same_numbers, same-values, same-sums}
use Rattle.portions.proofs.StoreTurn.{begun, room, onward, ended, closed}
use Rattle.portions.proofs.store.Goals as goal

pub loop-at-init : goal.loop-at-init
loop-at-init c = begun

pub shape_of-tags-then-s-eq0 : goal.shape_of-tags-then-s-eq0
shape_of-tags-then-s-eq0 c = same-tags c.loop-at.invariant.stored

pub shape_of-numbers-then-s-eq0 : goal.shape_of-numbers-then-s-eq0
shape_of-numbers-then-s-eq0 c = same_numbers c.loop-at.invariant.stored

pub shape_of-values-then-s-eq0 : goal.shape_of-values-then-s-eq0
shape_of-values-then-s-eq0 c = same-values c.loop-at.invariant.stored

pub shape_of-sums-then-s-eq0 : goal.shape_of-sums-then-s-eq0
shape_of-sums-then-s-eq0 c = same-sums c.loop-at.invariant.stored

pub returns-then-s-eq0 : goal.returns-then-s-eq0
returns-then-s-eq0 c =
    let e = closed c.loop-at.invariant c.if-s-eq0.true in record { state_value = e.0; laid = e.1 }

pub put_turn-r-requires : goal.put_turn-r-requires
put_turn-r-requires c =
    record { x_bound = room c.loop-at.invariant c.requires; fact = (c.if-s-eq0.false, c.loop-at-test.true) }

pub overflow_add-at : goal.overflow_add-at
overflow_add-at c = omega (arith, c.well_formed, c.put_turn-r.ensures.turn.fits)

pub loop-at-smaller : goal.loop-at-smaller
loop-at-smaller c = let k = c.put_turn-r.ensures.turn in omega (arith, k.fits, k.some)

pub loop-at-preserved : goal.loop-at-preserved
loop-at-preserved c = onward c.loop-at.invariant c.put_turn-r.ensures

pub shape_of-tags : goal.shape_of-tags
shape_of-tags c = same-tags c.loop-at.invariant.stored

pub shape_of-numbers : goal.shape_of-numbers
shape_of-numbers c = same_numbers c.loop-at.invariant.stored

pub shape_of-values : goal.shape_of-values
shape_of-values c = same-values c.loop-at.invariant.stored

pub shape_of-sums : goal.shape_of-sums
shape_of-sums c = same-sums c.loop-at.invariant.stored

pub returns : goal.returns
returns c =
    let e = ended c.loop-at.invariant c.loop-at-test.false in record { state_value = e.0; laid = e.1 }
