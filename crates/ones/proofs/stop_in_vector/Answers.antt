-- `ones::stop_in_vector` meets its contract: the first failing one is among those left in v. Assumes nothing.
use Rattle.std.proofs.Common.{◌≡◌, ◌+◌, ◌-◌, ◌^◌, cond, sym, ap, ◌∙◌, arith, pow_pos}
use Rattle.def_crate.specs.Sequence.{passes, sequence_of}
use Rattle.ones.specs.Stops.{stop_from, stop_at}
use Rattle.ones.proofs.DigitLaws.{digits, digits_mod, digits-all, top_below, stop-none, stop-top}
use Rattle.range.proofs.SequenceLaws.{moved-sequence}
use Rattle.ones.proofs.stop_in_vector.Goals as goal
use Rattle.ones.proofs.stop_in_vector.Goals.{After-passes, After-top_bit-j}

-- its number's test
tested : (c : After-passes) → let a = c.args in
    c.passes.result ≡ passes a.start a.end (sequence_of ((14 - c.top_bit-j.result)) a.start a.thinning)
tested c =
    let a = c.args in
    let e = c.moved_by.ensures ∙ moved-sequence ((14 - c.top_bit-j.result)) a.thinning a.start in
    c.passes.ensures ∙ ap (passes a.start a.end) e

-- it is tried first
tried : (c : After-top_bit-j) → let a = c.args in
    stop_at a.start a.end a.thinning a.w
    ≡ cond (passes a.start a.end (sequence_of ((14 - c.top_bit-j.result)) a.start a.thinning))
    (stop_from a.start a.end a.thinning 0 (digits 15 (c.loop-v.v - 2 ^ c.top_bit-j.result))) ((14 - c.top_bit-j.result))
tried c =
    let a = c.args in
    let t = c.top_bit-j in
    let e : 0 + (15 - 1 - t.result) ≡ (14 - c.top_bit-j.result) = omega arith in
    sym c.loop-v.invariant.1
    ∙ stop-top a.start a.end a.thinning 0 15 c.loop-v.v t.result c.loop-v.invariant.0 t.ensures ∙ (rw e)

pub loop-v-init : goal.loop-v-init
loop-v-init c = let a = c.args in
    let e = digits_mod 15 15 a.w (omega arith) ∙ sym (digits-all a.w c.requires) in (
      omega (arith, c.vector_bits-v.ensures),
      rw c.vector_bits-v.ensures (ap (stop_from a.start a.end a.thinning 0) e),
    )

pub overflow_sub-q : goal.overflow_sub-q
overflow_sub-q c = omega (arith, top_below 15 c.loop-v.invariant.0 c.top_bit-j.ensures)

pub returns-then-not-passes : goal.returns-then-not-passes
returns-then-not-passes c = sym (tried (goal.at.returns-then-not-passes c).After-top_bit-j ∙ (rw (sym (tested (goal.at.returns-then-not-passes c).After-passes) ∙ c.if-not-passes.true)))

pub loop-v-smaller : goal.loop-v-smaller
loop-v-smaller c = let t = c.top_bit-j in
    omega (arith, c.without_top-v.ensures, t.ensures.least, pow_pos t.result)

pub loop-v-preserved : goal.loop-v-preserved
loop-v-preserved c = let p = sym (tested (goal.at.loop-v-preserved c).After-passes) ∙ c.if-not-passes.false in
    let e = c.without_top-v.ensures in
    (omega (arith, e, c.loop-v.invariant.0), rw e (sym (tried (goal.at.loop-v-preserved c).After-top_bit-j ∙ (rw p))))

pub returns : goal.returns
returns c = let a = c.args in
    rw (← c.loop-v.invariant.1, c.loop-v-test.false) (sym (stop-none a.start a.end a.thinning 0 15))
