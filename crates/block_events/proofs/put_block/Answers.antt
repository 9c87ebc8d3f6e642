-- `block_events::put_block` meets its contract: by the kind of block. Assumes nothing.
use Rattle.std.specs.Prelude.{Some, None}
use Rattle.std.proofs.Common.{◌≡◌, [], ◌∷◌, ap, ◌∙◌, arith}
use Rattle.def_wire.specs.declared.Kind.TheVariants.{Spans, Clock, Echoes, Statistics}
use Rattle.def_wire.specs.Block.{type_of, kind_of}
use Rattle.def_portions.specs.Events.{start_of}
use Rattle.event_lists.specs.Laid.{Laid}
use Rattle.event_lists.proofs.LaidLaws.{laid_as, same-tags, same-values, same-room}
use Rattle.block_events.proofs.EventsLaws.{kind-known, events-spans, events-none}
use Rattle.block_events.proofs.PutLaws.{plain-start, clock-length, clock-two, clock-short, clock-long}
use Rattle.block_events.proofs.PutLaws.{echoes-length, echoes-laid, summary-length, summary-two, summary-short}
use Rattle.block_events.proofs.PutLaws.{summary-long, none-length}
use Rattle.block_events.proofs.put_block.Goals as goal
use Rattle.block_events.proofs.put_block.Goals.{After-put-m, After-put-m-in-Echoes, After-put-m-in-Statistics, In-Spans, In-Clock, In-Echoes, In-None, In-Statistics}

-- ---- type 4

clock : (e : In-Clock) → kind_of (type_of e.args.v.now) ≡ Some Clock
clock e = kind-known e.args.v.now e.type_of-t.ensures e.kind_of.ensures e.in-Some.is ∙ ap Some e.in-Clock.is

-- the start was stored
clock-began : (p : After-put-m) → let a = p.args in
    Laid (start_of a.v.now ∷ []) a.n a.tags.now a.numbers.now a.values.now a.sums.now
    p.put-m.new.tags p.put-m.new.numbers p.put-m.new.values p.put-m.new.sums p.put-m.result
clock-began p = laid_as (plain-start p.args.v.now p.type_of-t.ensures p.length_of.ensures) p.put-m.ensures

-- ---- type 5

echoes : (e : In-Echoes) → kind_of (type_of e.args.v.now) ≡ Some Echoes
echoes e = kind-known e.args.v.now e.type_of-t.ensures e.kind_of.ensures e.in-Some.is ∙ ap Some e.in-Echoes.is

-- the start was stored
echoes-began : (p : After-put-m-in-Echoes) → let a = p.args in
    Laid (start_of a.v.now ∷ []) a.n a.tags.now a.numbers.now a.values.now a.sums.now
    p.put-m-in-Echoes.new.tags p.put-m-in-Echoes.new.numbers p.put-m-in-Echoes.new.values p.put-m-in-Echoes.new.sums p.put-m-in-Echoes.result
echoes-began p = laid_as (plain-start p.args.v.now p.type_of-t.ensures p.length_of-in-Echoes.ensures) p.put-m-in-Echoes.ensures

-- ---- type 6

summary : (e : In-Statistics) → kind_of (type_of e.args.v.now) ≡ Some Statistics
summary e = kind-known e.args.v.now e.type_of-t.ensures e.kind_of.ensures e.in-Some.is ∙ ap Some e.in-Statistics.is

-- the start was stored
summary-began : (p : After-put-m-in-Statistics) → let a = p.args in
    Laid (start_of a.v.now ∷ []) a.n a.tags.now a.numbers.now a.values.now a.sums.now
    p.put-m-in-Statistics.new.tags p.put-m-in-Statistics.new.numbers p.put-m-in-Statistics.new.values p.put-m-in-Statistics.new.sums p.put-m-in-Statistics.result
summary-began p = laid_as (plain-start p.args.v.now p.type_of-t.ensures p.length_of-in-Statistics.ensures) p.put-m-in-Statistics.ensures

-- ---- any other type

none : (e : In-None) → kind_of (type_of e.args.v.now) ≡ None
none e = kind-known e.args.v.now e.type_of-t.ensures e.kind_of.ensures e.in-None.is

-- ---- types 1 to 3

spans : (e : In-Spans) → kind_of (type_of e.args.v.now) ≡ Some (Spans e.in-Spans.g)
spans e = kind-known e.args.v.now e.type_of-t.ensures e.kind_of.ensures e.in-Some.is ∙ ap Some e.in-Spans.is

pub put_range-requires : goal.put_range-requires
put_range-requires c = rw (events-spans c.args.v.now _ (spans (goal.at.put_range-requires c).In-Spans)) c.requires

pub returns-in-Spans : goal.returns-in-Spans
returns-in-Spans c = laid_as (events-spans c.args.v.now _ (spans (goal.at.returns-in-Spans c).In-Spans)) c.put_range.ensures

pub put-m-requires : goal.put-m-requires
put-m-requires c = omega (arith, clock-length c.args.v.now (clock (goal.at.put-m-requires c).In-Clock), c.requires)

pub returns-then-v-lt12 : goal.returns-then-v-lt12
returns-then-v-lt12 c = clock-short c.args.v.now (clock (goal.at.returns-then-v-lt12 c).In-Clock) (clock-began (goal.at.returns-then-v-lt12 c).After-put-m) c.if-v-lt12.true

pub put-requires : goal.put-requires
put-requires c =
    let k = clock-two c.args.v.now (clock (goal.at.put-requires c).In-Clock) c.if-v-lt12.false in
    let b = clock-began (goal.at.put-requires c).After-put-m in
    rw (same-room b) (omega (arith, k, b.past, c.requires))

pub returns-else-v-lt12 : goal.returns-else-v-lt12
returns-else-v-lt12 c = clock-long c.args.v.now (clock (goal.at.returns-else-v-lt12 c).In-Clock) (clock-began (goal.at.returns-else-v-lt12 c).After-put-m)
    c.if-v-lt12.false c.u64_from_be_bytes.ensures c.put.ensures

pub put-m-requires-in-Echoes : goal.put-m-requires-in-Echoes
put-m-requires-in-Echoes c = omega (arith, echoes-length c.args.v.now (echoes (goal.at.put-m-requires-in-Echoes c).In-Echoes), c.requires)

pub put_entries-requires : goal.put_entries-requires
put_entries-requires c =
    let k = echoes-length c.args.v.now (echoes (goal.at.put_entries-requires c).In-Echoes) in
    let b = echoes-began (goal.at.put_entries-requires c).After-put-m-in-Echoes in
    let m = c.count.ensures in
    record {
      count_value = m;
      count_in_bounds = (
        omega (arith, k, m, b.past, same-tags b, c.requires),
        omega (arith, k, m, b.past, same-values b, c.requires),
      );
    }

pub returns-in-Echoes : goal.returns-in-Echoes
returns-in-Echoes c =
    let s = c.put_entries.ensures in
    echoes-laid c.args.v.now (echoes (goal.at.returns-in-Echoes c).In-Echoes) (echoes-began (goal.at.returns-in-Echoes c).After-put-m-in-Echoes) s.tags_after
    s.values_after s.value

pub put-m-requires-in-Statistics : goal.put-m-requires-in-Statistics
put-m-requires-in-Statistics c = omega (arith, summary-length c.args.v.now (summary (goal.at.put-m-requires-in-Statistics c).In-Statistics), c.requires)

pub returns-then-v-lt40 : goal.returns-then-v-lt40
returns-then-v-lt40 c = summary-short c.args.v.now (summary (goal.at.returns-then-v-lt40 c).In-Statistics)
    (summary-began (goal.at.returns-then-v-lt40 c).After-put-m-in-Statistics) c.if-v-lt40.true

pub put-requires-in-Statistics : goal.put-requires-in-Statistics
put-requires-in-Statistics c =
    let k = summary-two c.args.v.now (summary (goal.at.put-requires-in-Statistics c).In-Statistics) c.if-v-lt40.false in
    let b = summary-began (goal.at.put-requires-in-Statistics c).After-put-m-in-Statistics in
    rw (same-room b) (omega (arith, k, b.past, c.requires))

pub returns-else-v-lt40 : goal.returns-else-v-lt40
returns-else-v-lt40 c = summary-long c.args.v.now (summary (goal.at.returns-else-v-lt40 c).In-Statistics)
    (summary-began (goal.at.returns-else-v-lt40 c).After-put-m-in-Statistics) c.if-v-lt40.false c.summary_at.ensures c.put-in-Statistics.ensures

pub put-requires-in-None : goal.put-requires-in-None
put-requires-in-None c = omega (arith, none-length c.args.v.now (none (goal.at.put-requires-in-None c).In-None), c.requires)

pub returns-in-None : goal.returns-in-None
returns-in-None c = laid_as
    (plain-start c.args.v.now c.type_of-t.ensures c.length_of-in-None.ensures
    ∙ events-none c.args.v.now (none (goal.at.returns-in-None c).In-None))
    c.put-in-None.ensures
