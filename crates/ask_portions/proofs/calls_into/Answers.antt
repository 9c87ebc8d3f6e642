-- `ask_portions::calls_into` meets its contract: what was added so far and what is still to come make up the whole.
-- Assumes nothing.
use native.Mathlib.Omega.{arith}
use Rattle.utils.proofs.BytesLaws.{Bytes}
use Rattle.ask_portions.proofs.CallsTurn.{begun, inside, onward, ended, last}
use Rattle.ask_portions.proofs.calls_into.Goals as goal
use Rattle.ask_portions.proofs.calls_into.Goals.{After-start-st}

-- the slice has bytes
bytes : (c : After-start-st) → Bytes c.args.x.now
bytes c = λ i. (c.type_inv.x i).fits

pub loop-i-init : goal.loop-i-init
loop-i-init c = begun _ _ _ _ _ _ _ _ _ c.start-st.ensures

pub overflow_add-from : goal.overflow_add-from
overflow_add-from c = omega (
  arith,
  c.well_formed,
  inside _ _ _ _ _ _ _ _ _ c.loop-i.invariant (bytes (goal.at.overflow_add-from c).After-start-st)
      c.u32_from_le_bytes-size.result _ c.part-y.ensures.result_value _ _ c.one-t.ensures,
)

pub loop-i-preserved : goal.loop-i-preserved
loop-i-preserved c =
    onward _ _ _ _ _ _ _ _ _ c.loop-i.invariant (bytes (goal.at.loop-i-preserved c).After-start-st)
    c.u32_from_le_bytes-size.result _ c.part-y.ensures.result_value _ _ c.one-t.ensures c.loop-i-test.true
    c.u32_from_le_bytes-size.ensures c.one-t.auto.tags c.one-t.auto.numbers c.one-t.auto.values c.one-t.auto.sums

pub returns-then-left-eq0 : goal.returns-then-left-eq0
returns-then-left-eq0 c = ended _ _ _ _ _ _ _ _ _ c.loop-i.invariant (bytes (goal.at.returns-then-left-eq0 c).After-start-st) c.loop-i-test.false _ c.part-left.ensures.result_value
    c.if-left-eq0.true

pub returns : goal.returns
returns c = last _ _ _ _ _ _ _ _ _ c.loop-i.invariant (bytes (goal.at.returns c).After-start-st) c.loop-i-test.false _ c.part-left.ensures.result_value
    c.if-left-eq0.false _ _ c.one-t-2.ensures
