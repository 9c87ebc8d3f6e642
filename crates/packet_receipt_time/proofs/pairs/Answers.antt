-- `packet_receipt_time::pairs` meets its contract.
use Rattle.laws.proofs.Passing.{handed-on}
use Rattle.std.specs.Prelude.{Ok}
use Rattle.std.proofs.Common.{◌≡◌, ℕ, ◌≤◌, min, length, drop, sym, refl, ◌∙◌, arith, length-drop}
use Rattle.def_wire.specs.Bytes.{words32}
use Rattle.def_wire.specs.Block.{fields_at}
use Rattle.def_standard.specs.Range.{number_of}
use Rattle.def_questions.specs.Questions.{pairs_shown}
use Rattle.utils.proofs.BytesLaws.{length-words32, Bytes, be16-lt}
use Rattle.range.specs.Steps.{step_of}
use Rattle.range.specs.Failing.{never}
use Rattle.packet_receipt_time.specs.Pairs.{range_by, listable, stepped}
use Rattle.packet_receipt_time.proofs.PairsLaws.{length-stepped}
use Rattle.packet_receipt_time.proofs.PairsAnswers.{pairs-fine, pairs-unfit, pairs-listed, pairs-full}
use Rattle.packet_receipt_time.proofs.PairsAnswers.{pairs-refused, count-found, first_found, step-found}
use Rattle.packet_receipt_time.proofs.pairs.Goals as goal
use Rattle.packet_receipt_time.proofs.pairs.Goals.{After-min-n}

-- the count that was found
counted : (c : After-min-n) → c.min-n.result ≡ min (listable c.args.r (fields_at c.args.v.now))
    (length ((words32 (drop 12 c.args.v.now))))
counted c =
    let a = c.args in
    count-found a.r c.fields_at-f.result a.v.now c.fields_at-f.ensures c.min-n.result
    c.listable_of.result c.times_count.result c.min-n.ensures c.listable_of.ensures
    c.times_count.ensures

-- what is shown, by a first number and a step
asked : (c : After-min-n) (first step : ℕ) → first ≡ number_of (range_by c.args.r (fields_at c.args.v.now)) 0
    → step ≡ step_of (fields_at c.args.v.now).thinning
    → pairs_shown c.args.r c.args.v.now ≡ Ok
    (stepped step first c.min-n.result ((words32 (drop 12 c.args.v.now))))
asked c first step p q =
    let bytes : Bytes c.args.v.now = λ i. (c.type_inv.v i).fits in
    let few : length ((words32 (drop 12 c.args.v.now))) ≤ never = omega (
      arith,
      length-words32 (drop 12 c.args.v.now),
      length-drop 12 c.args.v.now,
      c.well_formed,
    ) in
    pairs-fine c.args.r c.args.v.now (sym c.check_times.ensures ∙ c.in_ok-check_times.was) (be16-lt c.args.v.now 8 bytes)
    (be16-lt c.args.v.now 10 bytes) few first step c.min-n.result p q (counted c)

long : (c : After-min-n) (first step : ℕ) → c.min-n.result ≡ length
    (stepped step first c.min-n.result ((words32 (drop 12 c.args.v.now))))
long c first step =
    omega (arith, counted c, length-stepped step first c.min-n.result ((words32 (drop 12 c.args.v.now))))

pub returns-then-room-n : goal.returns-then-room-n
returns-then-room-n c = let a = c.args in
    let first = number_of (range_by c.args.r (fields_at c.args.v.now)) 0 in
    let step = step_of (fields_at c.args.v.now).thinning in
    pairs-full _ a.numbers.now a.times.now (stepped step first c.min-n.result ((words32 (drop 12 c.args.v.now))))
    c.min-n.result c.min-room.result (asked (goal.at.returns-then-room-n c).After-min-n first step refl refl) (long (goal.at.returns-then-room-n c).After-min-n first step) c.min-room.ensures
    c.if-room-n.true

pub returns : goal.returns
returns c = let a = c.args in
    let first = first_found a.r c.fields_at-f.result a.v.now c.fields_at-f.ensures c.first_of-first.result
    c.first_of-first.ensures in
    let step = step-found a.r c.fields_at-f.result a.v.now c.fields_at-f.ensures c.doubled-step.result
    c.doubled-step.ensures in
    pairs-listed _ a.numbers.now a.times.now _ c.min-n.result _ _
    (asked (goal.at.returns c).After-min-n c.first_of-first.result c.doubled-step.result first step)
    (long (goal.at.returns c).After-min-n c.first_of-first.result c.doubled-step.result) (omega (arith, c.if-room-n.false, c.min-room.ensures))
    c.store.ensures

pub returns-in_err-check_times : goal.returns-in_err-check_times
returns-in_err-check_times c = let a = c.args in
    rw (handed-on _ _ c.from_residual.ensures) (pairs-refused _ a.numbers.now a.times.now c.in_err-check_times.field-0.0
    (pairs-unfit a.r a.v.now c.in_err-check_times.field-0.0 (sym c.check_times.ensures ∙ c.in_err-check_times.was)))
