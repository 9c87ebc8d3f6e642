-- `block_events::count_range` meets its contract: by the kind of block. Assumes nothing.
use Rattle.std.proofs.Common.{◌≡◌, ◌-◌, ◌/◌, min, ◌∷◌, length, sym, ap, ◌∙◌, arith}
use Rattle.def_wire.specs.Block.{fields_at}
use Rattle.def_standard.specs.Range.{range_of}
use Rattle.def_standard.specs.Standard.{standard_numbers}
use Rattle.def_portions.specs.Events.{ranged_of, listed}
use Rattle.range.specs.Inside.{inside_count}
use Rattle.block_events.proofs.EventsLaws.{from-short, numbers-found, numbers-few, length_pairs, count-chunks}
use Rattle.block_events.proofs.EventsLaws.{count-times}
use Rattle.block_events.proofs.count_range.Goals as goal
use Rattle.block_events.proofs.count_range.Goals.{After-count_standard}

counted : (c : After-count_standard) → c.count_standard.result ≡ length (standard_numbers c.args.v.now)
counted c =
    c.count_standard.ensures
    ∙ ap length (numbers-found c.args.v.now c.fields_at.ensures c.range_of-r.ensures c.part.ensures.result_value)

pub returns-then-v-lt12 : goal.returns-then-v-lt12
returns-then-v-lt12 c = let a = c.args in
    let v = a.v.now in
    sym (ap length (from-short v 12 (ranged_of v ∷ listed a.g v) c.if-v-lt12.true))

pub overflow_add-result : goal.overflow_add-result
overflow_add-result c = omega (arith, counted (goal.at.overflow_add-result c).After-count_standard, numbers-few c.args.v.now)

pub returns-in-Chunks : goal.returns-in-Chunks
returns-in-Chunks c = count-chunks c.args.v.now c.args.g _ _ c.in-Chunks.is c.if-v-lt12.false (counted (goal.at.returns-in-Chunks c).After-count_standard)

pub returns-in-Times : goal.returns-in-Times
returns-in-Times c = let a = c.args in
    let e : c.inside_count.result ≡ inside_count (range_of (fields_at a.v.now)) =
    c.inside_count.ensures ∙ ap inside_count (c.range_of-r.ensures ∙ ap range_of c.fields_at.ensures) in
    count-times a.v.now a.g _ c.in-Times.is c.if-v-lt12.false
    (c.min.ensures ∙ ap (min ((length a.v.now - 12) / 4)) e ∙ sym (length_pairs a.v.now))
