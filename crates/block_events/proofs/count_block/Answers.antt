-- `block_events::count_block` meets its contract: by the kind of block. Assumes nothing.
use Rattle.std.specs.Prelude.{Some}
use Rattle.std.proofs.Common.{List, [], ◌∷◌, length, sym, ap, ◌∙◌, arith}
use Rattle.def_wire.specs.Block.{time_at}
use Rattle.def_wire.specs.Summary.{summary_at}
use Rattle.def_portions.specs.declared.Event.{Event}
use Rattle.def_portions.specs.declared.Event.TheVariants.{Time, Summed}
use Rattle.def_portions.specs.Events.{start_of}
use Rattle.dlrr.proofs.EntriesLaws.{length-entries}
use Rattle.block_events.proofs.EventsLaws.{kind-known, events-spans, events-clock, events-echoes, events-none}
use Rattle.block_events.proofs.EventsLaws.{events-summary, from-short, from-enough, count-echoes}
use Rattle.block_events.proofs.count_block.Goals as goal

pub overflow_add-result : goal.overflow_add-result
overflow_add-result c = omega (arith, c.count.ensures, length-entries c.args.v.now, c.well_formed)

pub returns-in-Spans : goal.returns-in-Spans
returns-in-Spans c = let v = c.args.v.now in
    c.count_range.ensures
    ∙ ap length
    (events-spans v _ (kind-known v c.type_of.ensures c.kind_of.ensures c.in-Some.is
    ∙ ap Some c.in-Spans.is))

pub returns-then-v-lt12 : goal.returns-then-v-lt12
returns-then-v-lt12 c = let v = c.args.v.now in
    sym (ap (λ (es : List Event). length (start_of v ∷ es)) (from-short v 12 (Time (time_at v) ∷ []) c.if-v-lt12.true))
    ∙ ap length
    (events-clock v (kind-known v c.type_of.ensures c.kind_of.ensures c.in-Some.is
    ∙ ap Some c.in-Clock.is))

pub returns-else-v-lt12 : goal.returns-else-v-lt12
returns-else-v-lt12 c = let v = c.args.v.now in
    sym (ap (λ (es : List Event). length (start_of v ∷ es)) (from-enough v 12 (Time (time_at v) ∷ []) c.if-v-lt12.false))
    ∙ ap length
    (events-clock v (kind-known v c.type_of.ensures c.kind_of.ensures c.in-Some.is
    ∙ ap Some c.in-Clock.is))

pub returns-in-Echoes : goal.returns-in-Echoes
returns-in-Echoes c = let v = c.args.v.now in
    count-echoes v _ c.count.ensures
    ∙ ap length
    (events-echoes v (kind-known v c.type_of.ensures c.kind_of.ensures c.in-Some.is
    ∙ ap Some c.in-Echoes.is))

pub returns-then-v-lt40 : goal.returns-then-v-lt40
returns-then-v-lt40 c = let v = c.args.v.now in
    let q = from-short v 40 (Summed (summary_at v) ∷ []) c.if-v-lt40.true in
    sym (ap (λ (es : List Event). length (start_of v ∷ es)) q)
    ∙ ap length
    (events-summary v (kind-known v c.type_of.ensures c.kind_of.ensures c.in-Some.is
    ∙ ap Some c.in-Statistics.is))

pub returns-else-v-lt40 : goal.returns-else-v-lt40
returns-else-v-lt40 c = let v = c.args.v.now in
    let q = from-enough v 40 (Summed (summary_at v) ∷ []) c.if-v-lt40.false in
    sym (ap (λ (es : List Event). length (start_of v ∷ es)) q)
    ∙ ap length
    (events-summary v (kind-known v c.type_of.ensures c.kind_of.ensures c.in-Some.is
    ∙ ap Some c.in-Statistics.is))

pub returns-in-None : goal.returns-in-None
returns-in-None c = let v = c.args.v.now in
    ap length (events-none v (kind-known v c.type_of.ensures c.kind_of.ensures c.in-None.is))
