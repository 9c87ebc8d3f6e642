-- The events of a run are in range: whatever the bytes, each number of an event fits the item that it is listed in.
-- Assumes nothing.
--     Bounded             the numbers of a state that events repeat are within their types
--     shows-in-range      the events of bytes from a bounded state on
use Rattle.std.specs.Prelude.{Option, Ok, Err, Some, None}
use Prim.Native.Nat.{ℕ, ◌+◌, ◌-◌, ◌/◌, ◌^◌, ◌<◌}
use mathlib.Core.Bool.{Bool, true, false}
use mathlib.Core.List.{List, [], ◌∷◌, map}
use native.Mathlib.Nat.{mod-lt}
use native.Mathlib.Omega.{arith}
use lib.Dec.{eqb, lit<}
use Rattle.def_refusals.specs.Answers.{Or}
use Rattle.def_wire.specs.declared.Kind.{Kind}
use Rattle.def_portions.specs.declared.Event.{Event}
use Rattle.laws.proofs.Tests.{either, both}
use Rattle.def_wire.specs.declared.Kind.TheVariants.{Spans, Clock, Echoes, Statistics}
use Rattle.def_wire.specs.declared.Spread.{Spread}
use Rattle.def_wire.specs.declared.ByteSpread.{ByteSpread}
use Rattle.def_wire.specs.declared.Sums.{Sums}
use Rattle.def_wire.specs.declared.HopsOr.{HopsOr}
use Rattle.def_wire.specs.Bytes.{four}
use Rattle.def_wire.specs.Packet.{announced_of}
use Rattle.def_wire.specs.Block.{type_of, block_length, kind_of, receipt_type}
use Rattle.def_wire.specs.Summary.{spread, byte_spread, is_set, toh_in, count_if, jitter_if, hops_by, summary_from}
use Rattle.def_wire.specs.Summary.{given_of, jitter_of, hops_of, sums_of}
use Rattle.def_standard.specs.Range.{number_of}
use Rattle.def_portions.specs.declared.Event.TheVariants.{Ranged as RangedStart, Number}
use Rattle.range.specs.Steps.{onward}
use Rattle.ones.specs.Along.{along}
use Rattle.states.specs.declared.Kept.{Kept}
use Rattle.states.specs.declared.Known.{Known}
use Rattle.states.specs.declared.Portions.{Portions}
use Rattle.states.specs.Steps.{head, sender, block, fields, word, time, whose, echo, clock, over, sums, hops}
use Rattle.states.specs.Steps.{hold, known, type_in, thinning_in, low16, low32, high32, fields_in, summing, sums_in}
use Rattle.states.specs.Steps.{item_fault, next_block, opened, opened_by, in_block, ranged, moved, in_packet}
use Rattle.states.specs.Steps.{summed_on, passed, passed_on, start_in, lone_of, list_of, shown_by, end_in, shown_on}
use Rattle.states.specs.Steps.{start, settled, settled_events, next, events_at, after, shows}
use Rattle.steps.proofs.BytesLaws.{fields-held}
use Rattle.event_lists.specs.Parts.{InRange, in_header, in_start, in_ranged, in_number, in_pair, in_entry, in_time, in_end}
use Rattle.event_lists.specs.Parts.{SumsInRange, in_summed, AllInRange, none_left, in_both}
use Rattle.event_lists.proofs.PartsLaws.{all_append}

-- what events repeat of a state
pub record BoundedIn (k : Known) : Type 0 where
  pub announced : k.announced < 2 ^ 32
  pub whose : k.whose < 2 ^ 32
  pub next : k.next < 65536

abbrev pub Bounded : Portions → Type 0
Bounded st = BoundedIn st.known

-- ---- the events of a complete item

-- the bytes of a number
type-lt : (w : ℕ) → type_of (four w) < 256
type-lt w = omega arith

length-lt : (w : ℕ) → block_length (four w) < 2 ^ 24
length-lt w = omega arith

fields_in_lem : (k : Known) (h t l : ℕ) → t < 256 → l < 2 ^ 24 → InRange (RangedStart t l (fields_in k h))
fields_in_lem k h t l p q =
    let a : high32 h < 2 ^ 32 = omega arith in
    let b : low16 (h / 65536) < 65536 = omega arith in
    let c : low16 h < 65536 = omega arith in
    let d : thinning_in k < 256 = omega arith in
    rw (← fields-held k h) (in_ranged p q a b c d)

along-in : (step first : ℕ) (vs : List ℕ) → first < 65536 → AllInRange (map Number (along step first vs))
unfolding along
along-in step first [] h = none_left
along-in step first (v ∷ vs) h =
    let rest = along-in step (onward step first) vs (mod-lt (first + step) (lit< tt)) in
    either (eqb v 1) (λ t. rw t (in_both (in_number h) rest)) (λ f. rw f rest)

start-in : (k : Option Kind) (w : ℕ) → AllInRange (list_of (start_in k w))
start-in (Some (Spans g)) w = none_left
start-in (Some Clock) w = in_both (in_start (type-lt w) (length-lt w)) none_left
start-in (Some Echoes) w = in_both (in_start (type-lt w) (length-lt w)) none_left
start-in (Some Statistics) w = in_both (in_start (type-lt w) (length-lt w)) none_left
start-in None w = in_both (in_start (type-lt w) (length-lt w)) none_left

-- the numbers of a summary, and what is shown of them: each as it stands, or 0
sums-in : (x : Kept) (h : ℕ) → SumsInRange (sums_in x h)
sums-in x h =
    record {
      ssrc = omega arith;
      begin = omega arith;
      end = omega arith;
      lost = omega arith;
      duplicates = omega arith;
      least = omega arith;
      most = omega arith;
      mean = omega arith;
      deviation = omega arith;
      hops_least = omega arith;
      hops_most = omega arith;
      hops_mean = omega arith;
      hops_deviation = omega arith;
    }

count-in : (b : Bool) (n : ℕ) → n < 2 ^ 32 → given_of (count_if b n) < 2 ^ 32
count-in true n h = h
count-in false n h = omega arith

jitter-in : (P : Spread → Type 0) → P (spread 0 0 0 0) → (b : Bool) (x : Spread) → P x → P (jitter_of (jitter_if b x))
jitter-in P z true x h = h
jitter-in P z false x h = z

hops-in : (P : ByteSpread → Type 0) → P (byte_spread 0 0 0 0) → (toh : ℕ) (x : ByteSpread) → P x
    → P (hops_of (hops_by toh x))
hops-in P z toh x h =
    both (λ (o : HopsOr). P (hops_of o)) (eqb toh 0) (λ t. z)
    (λ t. both (λ (o : HopsOr). P (hops_of o)) (eqb toh 1) (λ t. h)
    (λ t. both (λ (o : HopsOr). P (hops_of o)) (eqb toh 2) (λ t. h) (λ t. z)))

sums-shown : (flags : ℕ) (n : Sums) → SumsInRange n → SumsInRange (sums_of (summary_from flags n))
unfolding sums_of summary_from
sums-shown flags n r =
    let j = is_set 32 flags in
    let o = toh_in flags in
    record {
      ssrc = r.ssrc;
      begin = r.begin;
      end = r.end;
      lost = count-in (is_set 128 flags) n.lost r.lost;
      duplicates = count-in (is_set 64 flags) n.duplicates r.duplicates;
      least = jitter-in (λ (x : Spread). x.least < 2 ^ 32) (omega arith) j n.jitter r.least;
      most = jitter-in (λ (x : Spread). x.most < 2 ^ 32) (omega arith) j n.jitter r.most;
      mean = jitter-in (λ (x : Spread). x.mean < 2 ^ 32) (omega arith) j n.jitter r.mean;
      deviation = jitter-in (λ (x : Spread). x.deviation < 2 ^ 32) (omega arith) j n.jitter r.deviation;
      hops_least = hops-in (λ (x : ByteSpread). x.least < 256) (omega arith) o n.hops r.hops_least;
      hops_most = hops-in (λ (x : ByteSpread). x.most < 256) (omega arith) o n.hops r.hops_most;
      hops_mean = hops-in (λ (x : ByteSpread). x.mean < 256) (omega arith) o n.hops r.hops_mean;
      hops_deviation = hops-in (λ (x : ByteSpread). x.deviation < 256) (omega arith) o n.hops r.hops_deviation;
    }

abbrev LoneIn : Option Event → Type 0
LoneIn x = AllInRange (list_of x)

lone-in : (st : Portions) → Bounded st → LoneIn (lone_of st)
unfolding lone_of
lone-in st b =
    let k = st.known in
    both LoneIn (eqb st.item sender) (λ t. in_both (in_header b.announced (omega arith)) none_left)
    (λ t. both LoneIn (eqb st.item block)
    (λ t. start-in (kind_of (type_of (four (low32 st.held)))) (low32 st.held))
    (λ t. both LoneIn (eqb st.item fields)
    (λ t. in_both (fields_in_lem k st.held _ _ (type-lt k.block) (length-lt k.block)) none_left)
    (λ t. both LoneIn (eqb st.item time)
    (λ t. both LoneIn (eqb k.inside 0) (λ t. none_left) (λ t. in_both (in_pair b.next (omega arith)) none_left))
    (λ t. both LoneIn (eqb st.item echo)
    (λ t. in_both (in_entry b.whose (omega arith) (omega arith)) none_left)
    (λ t. both LoneIn (eqb st.item clock) (λ t. in_both in_time none_left)
    (λ t. both LoneIn (eqb st.item hops)
    (λ t. in_both (in_summed (sums-shown _ (sums_in k.kept st.held) (sums-in k.kept st.held))) none_left)
    (λ t. none_left)))))))

shown-in : (st : Portions) → Bounded st → AllInRange (shown_by st)
unfolding shown_by
shown-in st b =
    both AllInRange (eqb st.item word) (λ t. along-in _ st.known.next _ b.next) (λ t. lone-in st b)

end-in : (st : Portions) → AllInRange (end_in st)
end-in st = both AllInRange (eqb st.item over) (λ t. in_both in_end none_left) (λ t. none_left)

settled-in : (st : Portions) → Bounded st → AllInRange (settled_events st)
unfolding settled_events
settled-in st b = both AllInRange (eqb st.missing 0) (λ t. on (item_fault st)) (λ t. none_left)
  where
    on : (x : Or (Unit {0})) → AllInRange (shown_on x st)
    on (Ok _) = all_append (shown-in st b) (end-in (passed st))
    on (Err x) = none_left

-- ---- the state behind it

announced-lt : (w : ℕ) → announced_of (four w) < 2 ^ 32
announced-lt w = omega arith

next_block-in : (k : Known) (n : ℕ) → BoundedIn k → Bounded (next_block k n)
unfolding next_block
next_block-in k n b =
    let c : BoundedIn (known k.announced 0 0 0 0) =
    record { announced = b.announced; whose = omega arith; next = omega arith } in
    both Bounded (eqb n 0) (λ t. c) (λ t. c)

opened_in : (k : Known) (rest behind item size : ℕ) → BoundedIn k → Bounded (opened k rest behind item size)
unfolding opened
opened_in k rest behind item size b = both Bounded (eqb rest 0) (λ t. next_block-in k behind b) (λ t. b)

by_kind : (x : Option Kind) (k : Known) (rest behind : ℕ) → BoundedIn k → Bounded (opened_by x k rest behind)
by_kind (Some (Spans g)) k rest behind b = opened_in k rest behind fields 8 b
by_kind (Some Clock) k rest behind b = opened_in k rest behind clock 8 b
by_kind (Some Echoes) k rest behind b = opened_in k rest behind whose 4 b
by_kind (Some Statistics) k rest behind b = opened_in k rest behind sums 8 b
by_kind None k rest behind b = opened_in k rest behind _ rest b

in_block-in : (announced behind w : ℕ) → announced < 2 ^ 32 → Bounded (in_block announced behind w)
unfolding in_block
in_block-in announced behind w h =
    by_kind (kind_of (type_of (four w))) (known announced w 0 0 0) (block_length (four w) - 4)
    (behind - (block_length (four w) - 4)) (record { announced = h; whose = omega arith; next = omega arith })

in_packet-in : (w : ℕ) → Bounded (in_packet w)
unfolding in_packet
in_packet-in w = record { announced = announced-lt w; whose = omega arith; next = omega arith }

ranged-in : (k : Known) (h : ℕ) → BoundedIn k → BoundedIn (ranged k h)
unfolding ranged number_of
ranged-in k h b = record { announced = b.announced; whose = omega arith; next = mod-lt _ (lit< tt) }

moved_in : (k : Known) (n : ℕ) → BoundedIn k → BoundedIn (moved k n)
moved_in k n b = record { announced = b.announced; whose = omega arith; next = mod-lt _ (lit< tt) }

summed-in : (st : Portions) → Bounded st → Bounded (summed_on st)
unfolding summed_on
summed-in st b =
    let c : BoundedIn (summing st.known st.held) =
    record { announced = b.announced; whose = omega arith; next = omega arith } in
    both Bounded (eqb st.rest 4) (λ t. opened_in _ _ _ _ _ c) (λ t. opened_in _ _ _ _ _ c)

passed-in : (st : Portions) → Bounded st → Bounded (passed st)
unfolding passed
passed-in st b =
    let k = st.known in
    both Bounded (eqb st.item head) (λ t. in_packet-in _)
    (λ t. both Bounded (eqb st.item sender) (λ t. next_block-in k _ b)
    (λ t. both Bounded (eqb st.item block) (λ t. in_block-in _ _ _ b.announced)
    (λ t. both Bounded (eqb st.item fields)
    (λ t. both Bounded (eqb (type_in k) receipt_type) (λ t. opened_in _ _ _ _ _ (ranged-in k st.held b))
    (λ t. opened_in _ _ _ _ _ (ranged-in k st.held b)))
    (λ t. both Bounded (eqb st.item word) (λ t. opened_in _ _ _ _ _ (moved_in k _ b))
    (λ t. both Bounded (eqb st.item time) (λ t. opened_in _ _ _ _ _ (moved_in k 1 b))
    (λ t. both Bounded (eqb st.item whose)
    (λ t. opened_in _ _ _ _ _ (record { announced = b.announced; whose = omega arith; next = omega arith }))
    (λ t. both Bounded (eqb st.item echo)
    (λ t. opened_in _ _ _ _ _ (record { announced = b.announced; whose = omega arith; next = omega arith }))
    (λ t. both Bounded (eqb st.item sums) (λ t. summed-in st b) (λ t. opened_in _ _ _ _ _ b)))))))))

next-in : (st : Portions) (c : ℕ) → Bounded st → Bounded (next st c)
unfolding next settled
next-in st c b =
    both Bounded (eqb st.missing 0) (λ t. b)
    (λ t. both Bounded (eqb (hold st c).missing 0) (λ t. on (item_fault (hold st c))) (λ t. b))
  where
    on : (x : Or (Unit {0})) → Bounded (passed_on x (hold st c))
    on (Ok _) = passed-in (hold st c) b
    on (Err x) = b

-- ---- runs

events-in : (st : Portions) (c : ℕ) → Bounded st → AllInRange (events_at st c)
unfolding events_at
events-in st c b = both AllInRange (eqb st.missing 0) (λ t. none_left) (λ t. settled-in (hold st c) b)

pub shows-in-range : (st : Portions) (x : List ℕ) → Bounded st → AllInRange (shows st x)
unfolding shows
shows-in-range st [] b = none_left
shows-in-range st (c ∷ x) b = all_append (events-in st c b) (shows-in-range (next st c) x (next-in st c b))

pub bounded-start : Bounded start
unfolding start
bounded-start = record { announced = omega arith; whose = omega arith; next = omega arith }

pub bounded-after : (st : Portions) (x : List ℕ) → Bounded st → Bounded (after st x)
unfolding after
bounded-after st [] b = b
bounded-after st (c ∷ x) b = bounded-after (next st c) x (next-in st c b)
