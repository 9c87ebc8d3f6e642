-- `block_events::put_range` meets its contract: the start, and behind it the numbers or the pairs. Assumes nothing.
use Rattle.std.proofs.Common.{◌≡◌, ◌-◌, ◌/◌, min, [], ◌∷◌, length, drop, sym, ap, ◌∙◌, arith, length-drop}
use Rattle.def_wire.specs.declared.Reading.TheVariants.{Standard}
use Rattle.def_wire.specs.Bytes.{words16}
use Rattle.def_wire.specs.Block.{fields_at}
use Rattle.def_standard.specs.declared.Range.{Range}
use Rattle.def_standard.specs.Range.{range_of, number_of}
use Rattle.def_standard.specs.Standard.{numbers_of, standard_numbers}
use Rattle.def_portions.specs.Events.{ranged_of}
use Rattle.event_lists.specs.Laid.{Laid}
use Rattle.event_lists.proofs.LaidLaws.{laid_as, same-tags, same_numbers, same-values}
use Rattle.utils.proofs.BytesLaws.{length-words32}
use Rattle.range.specs.Inside.{inside_count}
use Rattle.packet_receipt_time.proofs.PairsAnswers.{first_found, step-found}
use Rattle.block_events.proofs.EventsLaws.{numbers-found, length_pairs, pairs-stepped, count-chunks}
use Rattle.block_events.proofs.EventsLaws.{count-times}
use Rattle.block_events.proofs.PutLaws.{ranged-start, ranged-short, ranged-chunks, ranged-times, ranged-length}
use Rattle.block_events.proofs.put_range.Goals as goal
use Rattle.block_events.proofs.put_range.Goals.{After-min-count, After-part, After-put-m}

-- the start was stored
began : (p : After-put-m) → let a = p.args in
    Laid (ranged_of a.v.now ∷ []) a.n a.tags.now a.numbers.now a.values.now a.sums.now
    p.put-m.new.tags p.put-m.new.numbers p.put-m.new.values p.put-m.new.sums p.put-m.result
began p = laid_as (ranged-start p.args.v.now p.type_of.ensures p.length_of.ensures p.fields_at-f.ensures) p.put-m.ensures

-- ---- the numbers

numbers : (c : After-part) → numbers_of c.range_of-r.result (words16 c.part.result.now) ≡ standard_numbers c.args.v.now
numbers c = numbers-found c.args.v.now c.fields_at-f.ensures c.range_of-r.ensures c.part.ensures.result_value

-- ---- the pairs

-- as many are stored as there are
counted : (c : After-min-count) → let v = c.args.v.now in
    c.min-count.result ≡ min ((length v - 12) / 4) (inside_count (range_of (fields_at v)))
counted c =
    c.min-count.ensures
    ∙ ap (min ((length c.args.v.now - 12) / 4))
    (c.inside_count.ensures ∙ ap inside_count (c.range_of-r.ensures ∙ ap range_of c.fields_at-f.ensures))

pub returns-then-v-lt12 : goal.returns-then-v-lt12
returns-then-v-lt12 c = ranged-short c.args.v.now c.args.g c.if-v-lt12.true

pub put-m-requires : goal.put-m-requires
put-m-requires c = omega (arith, ranged-length c.args.v.now c.args.g c.if-v-lt12.false, c.requires)

pub put_numbers-requires : goal.put_numbers-requires
put_numbers-requires c =
    let b = began (goal.at.put_numbers-requires c).After-put-m in
    let k = count-chunks c.args.v.now c.args.g _ _ c.in-Chunks.is c.if-v-lt12.false
    (ap length (numbers (goal.at.put_numbers-requires c).After-part)) in (
      omega (arith, k, b.past, same-tags b, c.requires),
      omega (arith, k, b.past, same_numbers b, c.requires),
    )

pub returns-in-Chunks : goal.returns-in-Chunks
returns-in-Chunks c =
    let e = c.put_numbers.ensures in
    ranged-chunks c.args.v.now c.if-v-lt12.false (began (goal.at.returns-in-Chunks c).After-put-m) _ c.in-Chunks.is
    (numbers (goal.at.returns-in-Chunks c).After-part) e.tags_after e.numbers_after e.value

pub put_pairs-requires : goal.put_pairs-requires
put_pairs-requires c =
    let v = c.args.v.now in
    let b = began (goal.at.put_pairs-requires c).After-put-m in
    let m = counted (goal.at.put_pairs-requires c).After-min-count in
    let k = count-times v c.args.g _ c.in-Times.is c.if-v-lt12.false (m ∙ sym (length_pairs v)) in
    record {
      count_in_bounds = omega (arith, m, length-words32 (drop 12 v), length-drop 12 v);
      count_bound = omega (arith, k, b.past, same-tags b, same_numbers b, same-values b, c.requires);
    }

pub returns-in-Times : goal.returns-in-Times
returns-in-Times c =
    let v = c.args.v.now in
    let first = first_found Standard c.fields_at-f.result v c.fields_at-f.ensures c.number_at.result
    (c.number_at.ensures ∙ ap (λ (y : Range). number_of y 0) c.range_of-r.ensures) in
    let step = step-found Standard c.fields_at-f.result v c.fields_at-f.ensures c.doubled-step.result
    c.doubled-step.ensures in
    ranged-times v c.if-v-lt12.false (began (goal.at.returns-in-Times c).After-put-m) c.in-Times.is
    (pairs-stepped v c.number_at.result c.doubled-step.result c.min-count.result first step
    (counted (goal.at.returns-in-Times c).After-min-count))
    c.put_pairs.ensures
