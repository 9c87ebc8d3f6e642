-- The laws of events read back from four lists: the one place that unfolds `event_of`. Assumes nothing.
--     event-header, ..             the event is of the kind that its tag says
--     event-back                   an event in range is the one that its own parts are
--     events-back, laid-back       so are all events that were laid into lists
use Rattle.std.specs.Prelude.{Option, Some, None}
use Prim.Native.Nat.{ℕ, suc, ◌+◌, ◌*◌, ◌/◌, ◌%◌, ◌^◌, ◌≤◌, ◌<◌}
use mathlib.Core.Path.{◌≡◌, refl, sym, ap, ap₂, ◌∙◌}
use mathlib.Core.List.{List, [], ◌∷◌, ◌++◌}
use native.Mathlib.Omega.{arith}
use lib.ListN.{length}
use lib.Arith.{digits_mod}
use borrow.Author.Tests.{ne_eqb}
use Rattle.def_wire.specs.declared.Spread.{Spread}
use Rattle.def_wire.specs.declared.HopsOr.{HopsOr}
use Rattle.def_wire.specs.declared.HopsOr.TheVariants.{NoHops, Ttl, HopLimit, Unknown}
use Rattle.def_wire.specs.declared.Sums.{Sums}
use Rattle.def_wire.specs.declared.Summary.{Summary}
use Rattle.def_wire.specs.Summary.{summary_from, count_flag, jitter_flag, toh_of, flags_of, sums_of}
use Rattle.def_standard.specs.Standard.{receipt}
use Rattle.def_portions.specs.declared.Event.{Event}
use Rattle.def_portions.specs.declared.Event.TheVariants.{Header, Start, Ranged as RangedStart, Number, Pair}
use Rattle.def_portions.specs.declared.Event.TheVariants.{Time, Summed, End}
use Rattle.def_portions.specs.Lists.{start_tag, halves, span_value, summary_tag, tag_of, tag_part, number_part, value_part}
use Rattle.def_portions.specs.Lists.{laid, laid_sums, room_in}
use Rattle.stats.proofs.BackLaws.{summary-back}
use Rattle.event_lists.specs.Laid.{Laid}
use Rattle.event_lists.specs.Parts.{type_in, length_in, fields_of, entry_of, upper, lower, sums_in, summary_in}
use Rattle.event_lists.specs.Parts.{event_of, events_of, events_in, SumsInRange}
use Rattle.event_lists.specs.Parts.{InRange, in_header, in_start, in_ranged, in_number, in_pair, in_entry}
use Rattle.event_lists.specs.Parts.{in_time, in_summed, in_end, AllInRange, none_left, in_both}
use Rattle.event_lists.proofs.LaidLaws.{item_after, laid-front, sum_part, sum_after, sums-front}

-- ---- one event

-- by the kind
module _ (tag n v a b c : ℕ) where
  abbrev event : Event
  event = event_of tag n v a b c

  pub event-header : tag % 256 ≡ 1 → Header (tag / 256 % 4294967296) (v % 4294967296) ≡ event
  unfolding event_of
  event-header e = rw e

  pub event-start : tag % 256 ≡ 2 → Start (type_in tag) (length_in tag) ≡ event
  unfolding event_of
  event-start e = rw e

  pub event-ranged : tag % 256 ≡ 3 → RangedStart (type_in tag) (length_in tag) (fields_of tag v) ≡ event
  unfolding event_of
  event-ranged e = rw e

  pub event-number : tag % 256 ≡ 4 → Number n ≡ event
  unfolding event_of
  event-number e = rw e

  pub event-pair : tag % 256 ≡ 5 → Pair (receipt n (v % 4294967296)) ≡ event
  unfolding event_of
  event-pair e = rw e

  pub event-entry : tag % 256 ≡ 6 → entry_of tag v ≡ event
  unfolding event_of
  event-entry e = rw e

  pub event-time : tag % 256 ≡ 7 → Time (record { 0 = v }) ≡ event
  unfolding event_of
  event-time e = rw e

  pub event-summary : tag % 256 ≡ 9 → Summed (summary_in tag v a b c) ≡ event
  unfolding event_of
  event-summary e = rw e

  -- of no kind
  pub event-end : (tag % 256 ≡ 1 → ⊥) → (tag % 256 ≡ 2 → ⊥) → (tag % 256 ≡ 3 → ⊥) → (tag % 256 ≡ 4 → ⊥)
      → (tag % 256 ≡ 5 → ⊥) → (tag % 256 ≡ 6 → ⊥) → (tag % 256 ≡ 7 → ⊥) → (tag % 256 ≡ 9 → ⊥) → End ≡ event
  unfolding event_of
  event-end p q r s t u w x =
      rw (
        ne_eqb _ _ p,
        ne_eqb _ _ q,
        ne_eqb _ _ r,
        ne_eqb _ _ s,
        ne_eqb _ _ t,
        ne_eqb _ _ u,
        ne_eqb _ _ w,
        ne_eqb _ _ x,
      )

event-eight : (n v a b c : ℕ) → event_of 8 n v a b c ≡ End
unfolding event_of
event-eight n v a b c = refl

-- what stands in the tag of a block's start
module _ (kind type l thinning : ℕ) (a : kind < 256) where
  start-kind : start_tag kind type l thinning % 256 ≡ kind
  start-kind = omega arith

  start-type : type < 256 → start_tag kind type l thinning / 256 % 256 ≡ type
  start-type h = omega arith

  start-length : type < 256 → l < 2 ^ 24 → start_tag kind type l thinning / 65536 % 16777216 ≡ l
  start-length h k = omega arith

  start-thinning : type < 256 → l < 2 ^ 24 → thinning < 256
      → start_tag kind type l thinning / 1099511627776 % 256 ≡ thinning
  start-thinning h k t = omega arith

-- and in its value
module _ (ssrc begin end : ℕ) where
  span-end : end < 65536 → span_value ssrc begin end % 65536 ≡ end
  span-end e = omega arith

  span-begin : begin < 65536 → end < 65536 → span_value ssrc begin end / 65536 % 65536 ≡ begin
  span-begin b e =
      let k : span_value ssrc begin end / 65536 ≡ ssrc * 65536 + begin = omega arith in rw k (digits_mod ssrc b)

  span-ssrc : ssrc < 2 ^ 32 → begin < 65536 → end < 65536
      → span_value ssrc begin end / 4294967296 % 4294967296 ≡ ssrc
  span-ssrc s b e = omega arith

-- two numbers of 32 bits
halves-upper : (x y : ℕ) → x < 2 ^ 32 → y < 2 ^ 32 → upper (halves x y) ≡ x
halves-upper x y h k = omega arith

halves-lower : (x y : ℕ) → y < 2 ^ 32 → lower (halves x y) ≡ y
halves-lower x y k = omega arith

-- what stands in the tag of a summary: its flags are a byte
count_small : (bit : ℕ) (c : Option ℕ) → count_flag bit c ≤ bit
count_small bit (Some n) = omega arith
count_small bit None = omega arith

jitter-small : (j : Option Spread) → jitter_flag j ≤ 32
jitter-small (Some x) = omega arith
jitter-small None = omega arith

toh-small : (h : HopsOr) → toh_of h ≤ 3
toh-small NoHops = omega arith
toh-small (Ttl x) = omega arith
toh-small (HopLimit x) = omega arith
toh-small Unknown = omega arith

flags-small : (s : Summary) → flags_of s < 256
unfolding flags_of
flags-small s =
    omega (
      arith,
      count_small 128 s.lost,
      count_small 64 s.duplicates,
      jitter-small s.jitter,
      toh-small s.hops,
    )

module _ (flags : ℕ) (n : Sums) (f : flags < 256) where
  summary-kind : summary_tag flags n % 256 ≡ 9
  summary-kind = omega arith

  summary-flags : summary_tag flags n / 256 % 256 ≡ flags
  summary-flags = omega arith

  -- by its own tag, value and numbers
  sums-back : SumsInRange n
      → sums_in (summary_tag flags n) (span_value n.ssrc n.begin n.end) (halves n.lost n.duplicates)
      (halves n.jitter.least n.jitter.most) (halves n.jitter.mean n.jitter.deviation) ≡ n
  sums-back r =
      let a : n.hops.least < 256 = r.hops_least in
      let b : n.hops.most < 256 = r.hops_most in
      let c : n.hops.mean < 256 = r.hops_mean in
      let d : n.hops.deviation < 256 = r.hops_deviation in
      let tag = summary_tag flags n in
      let e₁ : tag / 1099511627776 % 256 ≡ n.hops.least = omega arith in
      let e₂ : tag / 4294967296 % 256 ≡ n.hops.most = omega arith in
      let e₃ : tag / 16777216 % 256 ≡ n.hops.mean = omega arith in
      let e₄ : tag / 65536 % 256 ≡ n.hops.deviation = omega arith in
      rw (
        e₁,
        e₂,
        e₃,
        e₄,
        span-ssrc n.ssrc n.begin n.end r.ssrc r.begin r.end,
        span-begin n.ssrc n.begin n.end r.begin r.end,
        span-end n.ssrc n.begin n.end r.end,
        halves-upper n.lost n.duplicates r.lost r.duplicates,
        halves-lower n.lost n.duplicates r.duplicates,
        halves-upper n.jitter.least n.jitter.most r.least r.most,
        halves-lower n.jitter.least n.jitter.most r.most,
        halves-upper n.jitter.mean n.jitter.deviation r.mean r.deviation,
        halves-lower n.jitter.mean n.jitter.deviation r.deviation,
      )

-- SSRC, begin and end are always there
summed-back : (s : Summary) → SumsInRange (sums_of s) → let n = sums_of s in
    sums_in (summary_tag (flags_of s) n) (span_value s.ssrc s.begin s.end) (halves n.lost n.duplicates)
    (halves n.jitter.least n.jitter.most) (halves n.jitter.mean n.jitter.deviation) ≡ n
unfolding sums_of
summed-back s r = sums-back (flags_of s) (sums_of s) (flags-small s) r

-- by its own parts
pub event-back : {e : Event} → InRange e → (x y a b c : ℕ)
    → event_of (tag_of e) (item_after (number_part e) x) (item_after (value_part e) y) (sum_after 0 e a) (sum_after 1 e b)
    (sum_after 2 e c) ≡ e
unfolding tag_of number_part value_part sum_part
event-back (in_header {l} {ssrc} h k) x y a b c =
    let e : (1 + 256 * l) / 256 % 4294967296 ≡ l = omega arith in
    let f : ssrc % 4294967296 ≡ ssrc = omega arith in
    sym (event-header (1 + 256 * l) x ssrc a b c (omega arith)) ∙ (rw (e, f))
event-back (in_start {type} {l} h k) x y a b c =
    sym (event-start (start_tag 2 type l 0) x y a b c (start-kind 2 type l 0 (omega arith)))
    ∙ (rw (start-type 2 type l 0 (omega arith) h, start-length 2 type l 0 (omega arith) h k))
event-back (in_ranged {type} {l} {f} h k hs hb he ht) x y a b c =
    let t = f.thinning in
    let v = span_value f.ssrc f.begin f.end in
    sym (event-ranged (start_tag 3 type l t) x v a b c (start-kind 3 type l t (omega arith)))
    ∙ (rw (
      start-type 3 type l t (omega arith) h,
      start-length 3 type l t (omega arith) h k,
      start-thinning 3 type l t (omega arith) h k ht,
      span-ssrc f.ssrc f.begin f.end hs hb he,
      span-begin f.ssrc f.begin f.end hb he,
      span-end f.ssrc f.begin f.end he,
    ))
event-back (in_number {n} h) x y a b c = sym (event-number 4 n y a b c refl)
event-back (in_pair {r} h k) x y a b c =
    let e : r.time.0 % 4294967296 ≡ r.time.0 = omega arith in
    sym (event-pair 5 r.number r.time.0 a b c refl) ∙ (rw e)
event-back (in_entry {e} h k m) x y a b c =
    let f : (6 + 256 * e.ssrc) / 256 % 4294967296 ≡ e.ssrc = omega arith in
    sym (event-entry (6 + 256 * e.ssrc) x (halves e.last.0 e.delay.0) a b c (omega arith))
    ∙ (rw (f, halves-upper e.last.0 e.delay.0 k m, halves-lower e.last.0 e.delay.0 m))
event-back (in_time {t}) x y a b c = sym (event-time 7 x t.0 a b c refl)
event-back (in_summed {s} r) x y a b c =
    let n = sums_of s in
    let f = flags-small s in
    let tag = summary_tag (flags_of s) n in
    sym (event-summary tag x (span_value s.ssrc s.begin s.end) (halves n.lost n.duplicates)
    (halves n.jitter.least n.jitter.most) (halves n.jitter.mean n.jitter.deviation)
    (summary-kind (flags_of s) n f))
    ∙ ap Summed (ap₂ summary_from (summary-flags (flags_of s) n f) (summed-back s r) ∙ summary-back s)
event-back in_end x y a b c = event-eight x y a b c

-- ---- lists of events

pub all_append : {es fs : List Event} → AllInRange es → AllInRange fs → AllInRange (es ++ fs)
all_append none_left b = b
all_append (in_both r a) b = in_both r (all_append a b)

-- all of them
pub events-back : {es : List Event} → AllInRange es → (t u v w : List ℕ) → length es ≤ room_in t u v w
    → events_in (laid tag_part es 0 t) (laid number_part es 0 u) (laid value_part es 0 v) (laid_sums es 0 w) (length es)
    ≡ es
unfolding events_of
events-back none_left t u v w h = refl
events-back (in_both r a) [] u v w h = absurd (omega arith)
events-back (in_both r a) (x ∷ t) [] v w h = absurd (omega arith)
events-back (in_both r a) (x ∷ t) (y ∷ u) [] w h = absurd (omega arith)
events-back (in_both r a) (x ∷ t) (y ∷ u) (z ∷ v) [] h = absurd (omega arith)
events-back (in_both r a) (x ∷ t) (y ∷ u) (z ∷ v) (i ∷ []) h = absurd (omega arith)
events-back (in_both r a) (x ∷ t) (y ∷ u) (z ∷ v) (i ∷ j ∷ []) h = absurd (omega arith)
events-back (in_both {e} {es} r a) (x ∷ t) (y ∷ u) (z ∷ v) (i ∷ j ∷ k ∷ w) h =
    let n : 3 * suc (length es) ≡ suc (suc (suc (3 * length es))) = omega arith in
    rw (
      laid-front tag_part e es x t,
      laid-front number_part e es y u,
      laid-front value_part e es z v,
      sums-front e es i j k w,
      n,
    )
    (ap₂ (λ (f : Event) (fs : List Event). f ∷ fs) (event-back r y z i j k) (events-back a t u v w (omega arith)))

-- what calls leave that stored them from the front on
pub laid-back : {es : List Event} {t u v w t1 u1 v1 w1 : List ℕ} {n : ℕ} → AllInRange es
    → length es ≤ room_in t u v w → Laid es 0 t u v w t1 u1 v1 w1 n → events_in t1 u1 v1 w1 n ≡ es
laid-back {es} {t} {u} {v} {w} a h p =
    let e : 0 + length es ≡ length es = omega arith in
    rw (p.tags, p.numbers, p.values, p.sums, p.past, e) (events-back a t u v w h)
