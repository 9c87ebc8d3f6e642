-- The laws of a block's events: by its kind, and how many there are. Assumes nothing.
--     kind-known               the kind, as it was found
--     count-*                  how many events there are
--     pairs-stepped            the pairs by a first number, a step and a count
use Rattle.std.specs.Prelude.{Option, Some, None}
use Rattle.std.proofs.Common.{◌≡◌, ℕ, ◌+◌, ◌-◌, ◌/◌, ◌<◌, ◌≤◌, min, List, [], ◌∷◌, map, length, take, drop, sym, refl, ap, ◌∙◌, arith, length-drop, take_all, le-leb}
use lib.ListN.{length-map}
use borrow.Author.Tests.{lt-leb}
use Rattle.def_wire.specs.declared.Kind.{Kind}
use Rattle.def_wire.specs.declared.Ranged.{Ranged}
use Rattle.def_wire.specs.declared.Ranged.TheVariants.{Chunks, Times}
use Rattle.def_wire.specs.declared.Rle.{Rle}
use Rattle.def_wire.specs.declared.Kind.TheVariants.{Spans, Clock, Echoes, Statistics}
use Rattle.def_wire.specs.declared.Fields.{Fields}
use Rattle.def_wire.specs.Bytes.{words16, words32}
use Rattle.def_wire.specs.Block.{type_of, fields_at, time_at, kind_of}
use Rattle.def_wire.specs.Summary.{summary_at}
use Rattle.def_standard.specs.declared.Range.{Range}
use Rattle.def_standard.specs.Range.{circle, range_of, number_of}
use Rattle.def_standard.specs.Standard.{numbers_of, standard_words, standard_numbers, standard_pairs, entries_of}
use Rattle.def_portions.specs.declared.Event.{Event}
use Rattle.def_portions.specs.declared.Event.TheVariants.{Number, Pair, Entry, Time, Summed}
use Rattle.def_portions.specs.Events.{listed, start_of, ranged_of, from, kind_events, block_events}
use Rattle.utils.proofs.BytesLaws.{length-words32}
use Rattle.range.specs.Inside.{inside_count}
use Rattle.range.specs.Steps.{step_of}
use Rattle.range.proofs.InsideLaws.{inside-count-le}
use Rattle.range.proofs.GridLaws.{range_size, range-thinning}
use Rattle.ones.proofs.NumbersLaws.{length-numbers}
use Rattle.packet_receipt_time.specs.Pairs.{stepped}
use Rattle.packet_receipt_time.proofs.PairsLaws.{pairs-standard, first-all, first-stepped, length-stepped}

-- ---- by the kind

module _ (v : List ℕ) where
  pub kind-known : {t : ℕ} {r k : Option Kind} → t ≡ type_of v → r ≡ kind_of t → r ≡ k → kind_of (type_of v) ≡ k
  kind-known e f g = ap kind_of (sym e) ∙ sym f ∙ g

  pub events-spans : (g : Ranged) → kind_of (type_of v) ≡ Some (Spans g)
      → from 12 v (ranged_of v ∷ listed g v) ≡ block_events v
  unfolding kind_events
  events-spans g e = rw e

  pub events-clock : kind_of (type_of v) ≡ Some Clock
      → start_of v ∷ from 12 v (Time (time_at v) ∷ []) ≡ block_events v
  unfolding kind_events
  events-clock e = rw e

  pub events-echoes : kind_of (type_of v) ≡ Some Echoes → start_of v ∷ map Entry (entries_of v) ≡ block_events v
  unfolding kind_events
  events-echoes e = rw e

  pub events-summary : kind_of (type_of v) ≡ Some Statistics
      → start_of v ∷ from 40 v (Summed (summary_at v) ∷ []) ≡ block_events v
  unfolding kind_events
  events-summary e = rw e

  pub events-none : kind_of (type_of v) ≡ None → start_of v ∷ [] ≡ block_events v
  unfolding kind_events
  events-none e = rw e

  -- ---- with so many bytes

  pub from-short : (n : ℕ) (es : List Event) → length v < n → from n v es ≡ []
  from-short n es h = rw (lt-leb _ _ h)

  pub from-enough : (n : ℕ) (es : List Event) → n ≤ length v → from n v es ≡ es
  from-enough n es h = rw (le-leb _ _ h)

  -- ---- the numbers

  -- the words are all that is behind the fields
  pub numbers-found : {f : Fields} {g : Range} {words : List ℕ} → f ≡ fields_at v → g ≡ range_of f
      → words ≡ take (length v) (drop 12 v) → numbers_of g (words16 words) ≡ standard_numbers v
  numbers-found e k w =
      let h : length (drop 12 v) ≤ length v = omega (arith, length-drop 12 v) in
      rw (k, e, w, take_all (length v) (drop 12 v) h)

  -- no more than the circle has
  pub numbers-few : length (standard_numbers v) ≤ circle
  numbers-few =
      let g = range_of (fields_at v) in
      omega (arith, length-numbers g (standard_words v), inside-count-le g, range_size (fields_at v))

  -- ---- the pairs

  pub pairs-stepped : (first step n : ℕ) → first ≡ number_of (range_of (fields_at v)) 0
      → step ≡ step_of (fields_at v).thinning
      → n ≡ min ((length v - 12) / 4) (inside_count (range_of (fields_at v)))
      → stepped step first n (words32 (drop 12 v)) ≡ standard_pairs v
  pairs-stepped first step n f s e =
      let g = range_of (fields_at v) in
      let ts = words32 (drop 12 v) in
      let z : inside_count g - 0 ≡ inside_count g = omega arith in
      let m : min (inside_count g) (length ts) ≡ n = omega
      (arith, e, length-words32 (drop 12 v), length-drop 12 v) in
      sym
      (pairs-standard g 0 ts ∙ (rw z (first-all g 0 (inside_count g) ts))
      ∙ first-stepped g 0 (min (inside_count g) (length ts)) ts ∙ (rw (m, f, s, range-thinning (fields_at v))))

  pub length_pairs : length (standard_pairs v) ≡ min ((length v - 12) / 4) (inside_count (range_of (fields_at v)))
  length_pairs =
      let g = range_of (fields_at v) in
      let ts = words32 (drop 12 v) in
      let n = min ((length v - 12) / 4) (inside_count g) in
      let step = step_of (fields_at v).thinning in
      ap length (sym (pairs-stepped (number_of g 0) step n refl refl refl))
      ∙ length-stepped step (number_of g 0) n ts
      ∙ (let k : min n (length ts) ≡ n = omega (arith, length-words32 (drop 12 v), length-drop 12 v) in k)

  -- ---- how many there are

  pub count-chunks : (g : Ranged) (a : Rle) (n : ℕ) → g ≡ Chunks a → 12 ≤ length v
      → n ≡ length (standard_numbers v) → 1 + n ≡ length (from 12 v (ranged_of v ∷ listed g v))
  count-chunks g a n e h k =
      rw (from-enough 12 (ranged_of v ∷ listed g v) h, e, length-map (standard_numbers v) Number, k)
      (omega arith)

  pub count-times : (g : Ranged) (n : ℕ) → g ≡ Times → 12 ≤ length v
      → n ≡ length (standard_pairs v) → 1 + n ≡ length (from 12 v (ranged_of v ∷ listed g v))
  count-times g n e h k =
      rw (from-enough 12 (ranged_of v ∷ listed g v) h, e, length-map (standard_pairs v) Pair, k)
      (omega arith)

  pub count-echoes : (n : ℕ) → n ≡ length (entries_of v) → 1 + n ≡ length (start_of v ∷ map Entry (entries_of v))
  count-echoes n k = rw (length-map (entries_of v) Entry, k) (omega arith)
