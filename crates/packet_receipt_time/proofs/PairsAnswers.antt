-- What a reading is asked, and each way in which a call that lists pairs ends.
use Rattle.std.specs.Prelude.{Ok, Err}
use Rattle.std.proofs.Common.{◌≡◌, ℕ, ◌-◌, ◌%◌, ◌^◌, ◌<◌, ◌≤◌, min, List, map, length, drop, sym, refl, ap, ◌∙◌, one-mul, arith}
use lib.ListN.{length-map}
use Rattle.def_refusals.specs.declared.Refusal.{Refusal}
use Rattle.def_refusals.specs.declared.Refusal.TheVariants.{NoRoom}
use Rattle.def_refusals.specs.Answers.{Or, each}
use Rattle.laws.proofs.Answering.{answer-listed, answer-full, answer-refused, filled-listed, filled-full}
use Rattle.laws.proofs.Answering.{filled-refused}
use Rattle.def_wire.specs.declared.Reading.{Reading}
use Rattle.def_wire.specs.declared.Reading.TheVariants.{Standard, Crate}
use Rattle.def_wire.specs.declared.Fields.{Fields}
use Rattle.def_wire.specs.Packet.{locate, part}
use Rattle.def_wire.specs.Bytes.{words32}
use Rattle.def_wire.specs.declared.Ranged.TheVariants.{Times}
use Rattle.def_wire.specs.declared.Kind.TheVariants.{Spans}
use Rattle.def_wire.specs.Block.{check_of, fields_at}
use Rattle.def_standard.specs.declared.Receipt.{Receipt}
use Rattle.def_standard.specs.Range.{range_of, number_of}
use Rattle.def_crate.specs.Sequence.{doubled_of}
use Rattle.def_questions.specs.Questions.{pairs_in, pairs_shown, ListedPairs}
use Rattle.def_questions.specs.Packets.{pairs_asked}
use Rattle.range.specs.Grid.{from_begin}
use Rattle.range.specs.Steps.{step_of}
use Rattle.range.specs.Failing.{never}
use Rattle.range.proofs.GridLaws.{range-thinning, range-begin}
use Rattle.range.proofs.NumberLaws.{number_of-zero}
use Rattle.packet_receipt_time.specs.Pairs.{range_by, listable, first_pairs, stepped, number_in, time_in}
use Rattle.packet_receipt_time.specs.Pairs.{Stored}
use Rattle.packet_receipt_time.proofs.PairsLaws.{pairs-standard, pairs-crate, first-all, first-stepped}

-- ---- what is asked
-- a reading's pairs are the first so many of the times
pairs-read : (r : Reading) (v : List ℕ) → (fields_at v).begin < 65536 → (fields_at v).end < 65536
    → length (words32 (drop 12 v)) ≤ never
    → pairs_in r v ≡ first_pairs (range_by r (fields_at v)) 0 (listable r (fields_at v) - 0) (words32 (drop 12 v))
pairs-read Standard v b e k = pairs-standard (range_of (fields_at v)) 0 (words32 (drop 12 v))
pairs-read Crate v b e k = pairs-crate (fields_at v) b e 0 (words32 (drop 12 v)) (omega arith) (omega arith)

thinning-by : (r : Reading) (f : Fields) → (range_by r f).thinning ≡ f.thinning
thinning-by Standard f = range-thinning f
thinning-by Crate f = refl

module _ (r : Reading) (v : List ℕ) where
  -- the list that is shown, from the first number, the step and the count that were found
  pub pairs-fine : check_of r (Spans Times) v ≡ Ok tt → (fields_at v).begin < 65536 → (fields_at v).end < 65536
      → length (words32 (drop 12 v)) ≤ never
      → (first step n : ℕ) → first ≡ number_of (range_by r (fields_at v)) 0 → step ≡ step_of (fields_at v).thinning
      → n ≡ min (listable r (fields_at v)) (length (words32 (drop 12 v)))
      → pairs_shown r v ≡ Ok (stepped step first n (words32 (drop 12 v)))
  unfolding pairs_shown
  pairs-fine c b e k first step n f s nn =
      let g = range_by r (fields_at v) in
      let ts = words32 (drop 12 v) in
      rw c
      (ap Ok
      (pairs-read r v b e k
      ∙ ap (λ (m : ℕ). first_pairs g 0 m ts) (let z : listable r (fields_at v) - 0 ≡ listable r (fields_at v) = omega
      arith in z)
      ∙ first-all g 0 (listable r (fields_at v)) ts ∙ first-stepped g 0 (min (listable r (fields_at v)) (length ts)) ts
      ∙ (rw (f, thinning-by r (fields_at v), s, nn))))

  pub pairs-unfit : (x : Refusal) → check_of r (Spans Times) v ≡ Err x → pairs_shown r v ≡ Err x
  unfolding pairs_shown
  pairs-unfit x e = rw e

-- what a reading counts from
pub first-standard : (r : Reading) (f : Fields) → r ≡ Standard → (range_of f).begin ≡ number_of (range_by r f) 0
first-standard r f e = rw e (sym (number_of-zero (range_of f) (range-begin f)))

pub first-crate : (r : Reading) (f : Fields) → f.begin < 65536 → r ≡ Crate → f.begin ≡ number_of (range_by r f) 0
first-crate r f h e = rw e (sym (number_of-zero (from_begin f) h))

-- what it lists at most
pub listable-standard : (r : Reading) (f : Fields) → r ≡ Standard → listable Standard f ≡ listable r f
listable-standard r f e = rw e

pub listable-crate : (r : Reading) (f : Fields) → r ≡ Crate → listable Crate f ≡ listable r f
listable-crate r f e = rw e

module _ (r : Reading) (s : List ℕ) (k : ℕ) where
  pub pairs-asked : (at n : ℕ) → locate r s k ≡ Ok (at, n) → pairs_shown r (part s at n) ≡ pairs_asked r s k
  unfolding pairs_asked
  pairs-asked at n e = rw e

  pub pairs-missing : (x : Refusal) → locate r s k ≡ Err x → pairs_asked r s k ≡ Err x
  unfolding pairs_asked
  pairs-missing x e = rw e

-- ---- the ways in which a listing call ends
-- a listing call's contract, of what is asked said otherwise
pub pairs-as : {whole asked : Or (List Receipt)} {ns ts ns' ts' : List ℕ} {a : Or ℕ} → whole ≡ asked
    → ListedPairs whole ns ts a ns' ts' → ListedPairs asked ns ts a ns' ts'
pairs-as e l = rw (← e) l

module _ (whole : Or (List Receipt)) (ns ts : List ℕ) where
  abbrev room : ℕ
  room = min (length ns) (length ts)

  pub pairs-listed : (l : List Receipt) (n : ℕ) (ns' ts' : List ℕ) → whole ≡ Ok l → n ≡ length l → n ≤ room
      → Stored l ns ts ns' ts'
      → ListedPairs whole ns ts (Ok n) ns' ts'
  pairs-listed l n ns' ts' w e h s =
      let k : length l ≤ room = omega arith in
      record {
        answer = answer-listed whole room l n w e k;
        numbers = filled-listed (each number_in whole) room ns (map number_in l) ns' (ap (each number_in) w)
            (rw (length-map l number_in) k) s.numbers;
        times = filled-listed (each time_in whole) room ts (map time_in l) ts' (ap (each time_in) w)
            (rw (length-map l time_in) k) s.times;
      }

  pub pairs-full : (l : List Receipt) (n m : ℕ) → whole ≡ Ok l → n ≡ length l → m ≡ room → m < n
      → ListedPairs whole ns ts (Err (NoRoom n m)) ns ts
  pairs-full l n m w e k h =
      let short : room < length l = omega arith in
      record {
        answer = rw k (answer-full whole room l n w e (omega arith));
        numbers = filled-full (each number_in whole) room ns (map number_in l) (ap (each number_in) w)
            (rw (length-map l number_in) short);
        times = filled-full (each time_in whole) room ts (map time_in l) (ap (each time_in) w)
            (rw (length-map l time_in) short);
      }

  pub pairs-refused : (x : Refusal) → whole ≡ Err x → ListedPairs whole ns ts (Err x) ns ts
  pairs-refused x w =
      record {
        answer = answer-refused whole room x w;
        numbers = filled-refused (each number_in whole) room ns x (ap (each number_in) w);
        times = filled-refused (each time_in whole) room ts x (ap (each time_in) w);
      }

-- the count, the first number and the step, from what was called for them
module _ (r : Reading) (f : Fields) (v : List ℕ) (read : f ≡ fields_at v) where
  pub count-found : (n a b : ℕ) → n ≡ min a b → a ≡ listable r f → b ≡ length (words32 (drop 12 v))
      → n ≡ min (listable r (fields_at v)) (length (words32 (drop 12 v)))
  count-found n a b e k q = rw (← read) (e ∙ (rw (k, q)))

  pub first_found : (x : ℕ) → x ≡ number_of (range_by r f) 0 → x ≡ number_of (range_by r (fields_at v)) 0
  first_found x e = rw (← read) e

  pub step-found : (x : ℕ) → x ≡ doubled_of 1 f.thinning → x ≡ step_of (fields_at v).thinning
  step-found x e = e ∙ ap (λ (a : ℕ). a % 65536) (one-mul (2 ^ f.thinning))
      ∙ ap (λ (q : Fields). step_of q.thinning) read
