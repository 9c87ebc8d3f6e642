-- A block's events from what the calls stored that put them into lists. Assumes nothing.
--     ranged-*     types 1 to 3: the start, and behind it the numbers or the pairs
--     clock-*, echoes-*, summary-*, none-*     the other blocks
use Rattle.std.specs.Prelude.{Some, None}
use Rattle.std.proofs.Common.{◌≡◌, ℕ, ◌+◌, ◌<◌, ◌≤◌, List, [], ◌∷◌, map, length, refl, ap, ◌∙◌, arith}
use Rattle.def_wire.specs.declared.Fields.{Fields}
use Rattle.def_wire.specs.declared.Ranged.{Ranged}
use Rattle.def_wire.specs.declared.Ranged.TheVariants.{Chunks, Times}
use Rattle.def_wire.specs.declared.Rle.{Rle}
use Rattle.def_wire.specs.declared.Kind.TheVariants.{Clock, Echoes, Statistics}
use Rattle.def_wire.specs.declared.Summary.{Summary}
use Rattle.def_wire.specs.Bytes.{be64}
use Rattle.def_wire.specs.Block.{type_of, block_length, fields_at, time_at, kind_of}
use Rattle.def_wire.specs.Summary.{summary_at}
use Rattle.def_standard.specs.declared.Receipt.{Receipt}
use Rattle.def_standard.specs.Standard.{standard_numbers, standard_pairs, entries_of}
use Rattle.def_portions.specs.declared.Event.{Event}
use Rattle.def_portions.specs.declared.Event.TheVariants.{Start, Ranged as RangedStart, Number, Entry, Time}
use Rattle.def_portions.specs.declared.Event.TheVariants.{Summed}
use Rattle.def_portions.specs.Lists.{tag_part, number_part, value_part, laid}
use Rattle.def_portions.specs.Events.{listed, start_of, ranged_of, from, block_events}
use Rattle.event_lists.specs.Laid.{Laid}
use Rattle.event_lists.proofs.LaidLaws.{laid_none, laid_as, laid_word, laid-entries, laid-pairs, and_then}
use Rattle.block_events.specs.Pairs.{PairsLaid}
use Rattle.block_events.proofs.EventsLaws.{from-short, from-enough, events-clock, events-echoes}
use Rattle.block_events.proofs.EventsLaws.{events-summary, events-none, count-echoes}

module _ (v : List ℕ) where
  -- the starts, as they were stored
  pub ranged-start : {t l : ℕ} {f : Fields} → t ≡ type_of v → l ≡ block_length v → f ≡ fields_at v
      → ◌≡◌ {A = List Event} (RangedStart t l f ∷ []) (ranged_of v ∷ [])
  ranged-start e k q = rw (e, k, q)

  pub plain-start : {t l : ℕ} → t ≡ type_of v → l ≡ block_length v
      → ◌≡◌ {A = List Event} (Start t l ∷ []) (start_of v ∷ [])
  plain-start e k = rw (e, k)

  -- ---- types 1 to 3

  pub ranged-short : (g : Ranged) {n : ℕ} {t u w z : List ℕ} → length v < 12
      → Laid (from 12 v (ranged_of v ∷ listed g v)) n t u w z t u w z n
  ranged-short g h = rw (from-short v 12 (ranged_of v ∷ listed g v) h) laid_none

  module _ (long : 12 ≤ length v) {n n1 : ℕ} {t u w z t1 u1 w1 z1 : List ℕ}
      (p : Laid (ranged_of v ∷ []) n t u w z t1 u1 w1 z1 n1) where
    pub ranged-chunks : {g : Ranged} {a : Rle} (xs : List ℕ) {n2 : ℕ} {t2 u2 : List ℕ} → g ≡ Chunks a
        → xs ≡ standard_numbers v → t2 ≡ laid tag_part (map Number xs) n1 t1 → u2 ≡ laid number_part (map Number xs) n1 u1
        → n2 ≡ n1 + length xs → Laid (from 12 v (ranged_of v ∷ listed g v)) n t u w z t2 u2 w1 z1 n2
    ranged-chunks {g} xs e k q r s =
        rw (from-enough v 12 (ranged_of v ∷ listed g v) long, e, ← k) (and_then p (laid_word xs q r s))

    pub ranged-times : {g : Ranged} {ps : List Receipt} {n2 : ℕ} {t2 u2 w2 : List ℕ} → g ≡ Times → ps ≡ standard_pairs v
        → PairsLaid ps n1 t1 u1 w1 t2 u2 w2 n2
        → Laid (from 12 v (ranged_of v ∷ listed g v)) n t u w z t2 u2 w2 z1 n2
    ranged-times {g} {ps} e k q =
        rw (from-enough v 12 (ranged_of v ∷ listed g v) long, e, ← k)
        (and_then p (laid-pairs ps q.tags q.numbers q.values q.past))

  -- there is an event at least
  pub ranged-length : (g : Ranged) → 12 ≤ length v → 1 ≤ length (from 12 v (ranged_of v ∷ listed g v))
  ranged-length g h = rw (from-enough v 12 (ranged_of v ∷ listed g v) h) (omega arith)

  -- ---- type 4

  module _ (k : kind_of (type_of v) ≡ Some Clock) where
    pub clock-length : 1 ≤ length (block_events v)
    clock-length = rw (← events-clock v k) (omega arith)

    pub clock-two : 12 ≤ length v → length (block_events v) ≡ 2
    clock-two h = rw (← events-clock v k, from-enough v 12 (Time (time_at v) ∷ []) h)

    module _ {n n1 : ℕ} {t u w z t1 u1 w1 z1 : List ℕ} (p : Laid (start_of v ∷ []) n t u w z t1 u1 w1 z1 n1) where
      pub clock-short : length v < 12 → Laid (block_events v) n t u w z t1 u1 w1 z1 n1
      clock-short h = rw (← events-clock v k, from-short v 12 (Time (time_at v) ∷ []) h) p

      pub clock-long : {n2 x : ℕ} {t2 u2 w2 z2 : List ℕ} → 12 ≤ length v → x ≡ be64 v 4
          → Laid (Time (record { 0 = x }) ∷ []) n1 t1 u1 w1 z1 t2 u2 w2 z2 n2
          → Laid (block_events v) n t u w z t2 u2 w2 z2 n2
      clock-long h e q =
          rw (← events-clock v k, from-enough v 12 (Time (time_at v) ∷ []) h, ← e) (and_then p q)

  -- ---- type 5

  module _ (k : kind_of (type_of v) ≡ Some Echoes) where
    pub echoes-length : 1 + length (entries_of v) ≡ length (block_events v)
    echoes-length = count-echoes v (length (entries_of v)) refl ∙ ap length (events-echoes v k)

    pub echoes-laid : {n n1 n2 : ℕ} {t u w z t1 u1 w1 z1 t2 w2 : List ℕ}
        → Laid (start_of v ∷ []) n t u w z t1 u1 w1 z1 n1 → t2 ≡ laid tag_part (map Entry (entries_of v)) n1 t1
        → w2 ≡ laid value_part (map Entry (entries_of v)) n1 w1
        → n2 ≡ n1 + length (entries_of v) → Laid (block_events v) n t u w z t2 u1 w2 z1 n2
    echoes-laid p q r s = laid_as (events-echoes v k) (and_then p (laid-entries (entries_of v) q r s))

  -- ---- type 6

  module _ (k : kind_of (type_of v) ≡ Some Statistics) where
    pub summary-length : 1 ≤ length (block_events v)
    summary-length = rw (← events-summary v k) (omega arith)

    pub summary-two : 40 ≤ length v → length (block_events v) ≡ 2
    summary-two h = rw (← events-summary v k, from-enough v 40 (Summed (summary_at v) ∷ []) h)

    module _ {n n1 : ℕ} {t u w z t1 u1 w1 z1 : List ℕ} (p : Laid (start_of v ∷ []) n t u w z t1 u1 w1 z1 n1) where
      pub summary-short : length v < 40 → Laid (block_events v) n t u w z t1 u1 w1 z1 n1
      summary-short h = rw (← events-summary v k, from-short v 40 (Summed (summary_at v) ∷ []) h) p

      pub summary-long : {n2 : ℕ} {s : Summary} {t2 u2 w2 z2 : List ℕ} → 40 ≤ length v → s ≡ summary_at v
          → Laid (Summed s ∷ []) n1 t1 u1 w1 z1 t2 u2 w2 z2 n2 → Laid (block_events v) n t u w z t2 u2 w2 z2 n2
      summary-long h e q =
          rw (← events-summary v k, from-enough v 40 (Summed (summary_at v) ∷ []) h, ← e) (and_then p q)

  -- ---- any other type

  pub none-length : kind_of (type_of v) ≡ None → 1 ≤ length (block_events v)
  none-length k = rw (← events-none v k) (omega arith)
