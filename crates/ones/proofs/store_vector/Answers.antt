-- `ones::store_vector` meets its contract: what is still to be stored are the numbers of the ones left in v.
-- Assumes nothing.
use Rattle.std.proofs.Common.{◌≡◌, ◌+◌, ◌-◌, ◌*◌, ◌%◌, ◌^◌, ◌<◌, ◌∷◌, ap, arith, pow_pos, shr_lt}
use Rattle.ones.specs.Along.{along}
use Rattle.ones.proofs.DigitLaws.{digits, digits-vector, top_below, along-none, along-top}
use Rattle.laws.proofs.Filling.{start, skip, within, put, ended}
use Rattle.ones.proofs.store_vector.Goals as goal
use Rattle.ones.proofs.store_vector.Goals.{After-top_bit-j}

-- the highest one comes next
next : (c : After-top_bit-j) → let a = c.args in
    along a.step a.first (digits a.room c.loop-v.v)
    ≡ (a.first + (a.room - 1 - c.top_bit-j.result) * a.step) % 65536
    ∷ along a.step a.first (digits a.room (c.loop-v.v - 2 ^ c.top_bit-j.result))
next c =
    let a = c.args in
    let t = c.top_bit-j in
    along-top a.step a.first a.room c.loop-v.v t.result (omega arith) c.loop-v.invariant.0 t.ensures

-- it is one of the places asked
asked : (c : After-top_bit-j) → c.top_bit-j.result < c.args.room
asked c =
    top_below c.args.room c.loop-v.invariant.0 c.top_bit-j.ensures

pub loop-v-init : goal.loop-v-init
loop-v-init c = let a = c.args in
    let b = c.vector_bits.ensures in
    let f : a.room + (15 - a.room) ≡ 15 = omega (arith, c.requires.1) in
    let k : c.vector_bits.result < 2 ^ 15 = omega (arith, b) in
    let e = ap (along a.step a.first) (digits-vector a.w c.requires.0 a.room c.requires.1) in
    (shr_lt a.room (15 - a.room) (rw f k), rw b (skip e (start c.requires.2)))

pub overflow_sub-room : goal.overflow_sub-room
overflow_sub-room c = omega (arith, asked (goal.at.overflow_sub-room c).After-top_bit-j)

pub overflow_sub-room-in-loop-v : goal.overflow_sub-room-in-loop-v
overflow_sub-room-in-loop-v c = omega (arith, asked (goal.at.overflow_sub-room-in-loop-v c).After-top_bit-j)

pub number_on-requires : goal.number_on-requires
number_on-requires c = omega (arith, c.requires.1)

pub bounds-out-n : goal.bounds-out-n
bounds-out-n c = within (next (goal.at.bounds-out-n c).After-top_bit-j) c.loop-v.invariant.1

pub overflow_add-n : goal.overflow_add-n
overflow_add-n c = omega (arith, within (next (goal.at.overflow_add-n c).After-top_bit-j) c.loop-v.invariant.1)

pub loop-v-smaller : goal.loop-v-smaller
loop-v-smaller c = let t = c.top_bit-j in
    omega (arith, c.without_top-v.ensures, t.ensures.least, pow_pos t.result)

pub loop-v-preserved : goal.loop-v-preserved
loop-v-preserved c = let i = c.loop-v.invariant in
    let e = c.without_top-v.ensures in
    (omega (arith, e, i.0), rw (c.number_on.ensures, e) (put (next (goal.at.loop-v-preserved c).After-top_bit-j) i.1))

pub returns : goal.returns
returns c = let a = c.args in
    ended (rw c.loop-v-test.false (along-none a.step a.first a.room)) c.loop-v.invariant.1
