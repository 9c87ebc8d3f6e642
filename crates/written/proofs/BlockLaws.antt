-- One block read back in the standard reading: it announces its own length, and shows what was laid in it. Assumes
-- nothing.
--     Laid           a block v that shows r
--     rle-laid, times-laid, clock-laid, echoes-laid, sums-laid     the blocks of each kind
use Rattle.std.specs.Prelude.{Ok, Some}
use Prim.Native.Nat.{ℕ, ◌+◌, ◌-◌, ◌/◌, ◌%◌, ◌≤◌, ◌<◌, ◌^◌}
use mathlib.Core.Path.{◌≡◌, refl, ap}
use mathlib.Core.Bool.{false}
use mathlib.Core.List.{List, [], ◌++◌}
use native.Mathlib.Nat.{mod-eq_of_lt}
use native.Mathlib.Omega.{arith}
use lib.ListN.{length, drop}
use borrow.Author.Tests.{eq-eqb, le-leb}
use Rattle.def_wire.specs.declared.Reading.TheVariants.{Standard}
use Rattle.def_wire.specs.declared.Rle.{Rle}
use Rattle.def_wire.specs.declared.Rle.TheVariants.{Loss, Duplicate}
use Rattle.def_wire.specs.declared.Ranged.{Ranged}
use Rattle.def_wire.specs.declared.Ranged.TheVariants.{Chunks, Times}
use Rattle.def_wire.specs.declared.Kind.{Kind}
use Rattle.def_wire.specs.declared.Kind.TheVariants.{Spans, Echoes}
use Rattle.def_wire.specs.declared.Fields.{Fields}
use Rattle.def_wire.specs.declared.Sums.{Sums}
use Rattle.def_wire.specs.Bytes.{words16, words32, two, four, eight}
use Rattle.def_wire.specs.Block.{type_of, fields_at, kind_type, rle_type, receipt_type, clock_type, echo_type, summary_type}
use Rattle.def_wire.specs.Block.{rle_of, ranged_of, kind_of, standard_rule, lost_run, has, word_rule, fitness, check_of}
use Rattle.def_wire.specs.Block.{fields_of, time_of}
use Rattle.def_wire.specs.Summary.{sums_at, summary_from, summary_of}
use Rattle.def_standard.specs.Range.{range_of}
use Rattle.def_standard.specs.Standard.{numbers_of, pairs_of, echoes_of}
use Rattle.def_questions.specs.Questions.{numbers_shown, pairs_shown, entries_shown}
use Rattle.def_jobs.specs.Shown.{Record, reported, received, clocked, echoed, summed, record_of}
use Rattle.def_jobs.specs.Layout.{head, with_fields, sums_bytes}
use Rattle.def_jobs.specs.Writing.{max_bytes}
use Rattle.utils.proofs.BytesLaws.{be16-two, be32-four, be64-eight}
use Rattle.utils.proofs.ClearLaws.{fit-fine, clear-fine}
use Rattle.written.proofs.WalkLaws.{Announces}

-- ---- the length field

pub announces-head : (type specific behind : ℕ) (rest : List ℕ) → behind ≡ length rest → length rest % 4 ≡ 0
    → length (head type specific behind ++ rest) ≤ max_bytes → Announces (head type specific behind ++ rest)
announces-head type specific behind rest e m h =
    omega (arith, be16-two (behind / 4) rest (omega arith))

-- ---- a block that is fit to be read

check-fine : (k : Kind) (v : List ℕ) → type_of v ≡ kind_type k → standard_rule k (length v) ≡ Ok tt
    → word_rule k (length v) v ≡ Ok tt → check_of Standard k v ≡ Ok tt
unfolding check_of
check-fine k v t r w = rw (eq-eqb _ _ t) (fit-fine v k r w)

-- ---- fields

-- fields that their bytes can hold
pub record Fits (f : Fields) : Type 0 where
  pub ssrc : f.ssrc < 4294967296
  pub begin : f.begin < 65536
  pub end : f.end < 65536
  pub thinning : f.thinning ≤ 15

module _ (type : ℕ) (f : Fields) (rest : List ℕ) where
  pub fields_back : Fits f → fields_at (with_fields type f rest) ≡ f
  fields_back h =
      λ i.
      record {
        ssrc = be32-four f.ssrc (two f.begin ++ (two f.end ++ rest)) h.ssrc i;
        begin = be16-two f.begin (two f.end ++ rest) h.begin i;
        end = be16-two f.end rest h.end i;
        thinning = mod-eq_of_lt {n = f.thinning} {m = 16} (omega arith) i;
      }

  fields_fit : (g : Ranged) → standard_rule (Spans g) (length (with_fields type f rest)) ≡ Ok tt
  unfolding standard_rule
  fields_fit g =
      let h : 12 ≤ length (with_fields type f rest) = omega arith in rw (le-leb 12 (length (with_fields type f rest)) h)

  announces-fields : length rest % 4 ≡ 0 → length (with_fields type f rest) ≤ max_bytes
      → Announces (with_fields type f rest)
  announces-fields m h =
      announces-head type f.thinning (8 + length rest) (four f.ssrc ++ (two f.begin ++ (two f.end ++ rest)))
      (omega arith) (omega arith) h

-- ---- each kind

pub record Laid (v : List ℕ) (r : Record) : Type 0 where
  pub whole : length v % 4 ≡ 0
  pub announces : length v ≤ max_bytes → Announces v
  pub shows : record_of Standard v ≡ Ok r

pub kind-rle : (a : Rle) → kind_of (rle_type a) ≡ Some (Spans (Chunks a))
unfolding kind_of ranged_of rle_of
kind-rle Loss = refl
kind-rle Duplicate = refl

module _ (f : Fields) (rest : List ℕ) (h : Fits f) (m : length rest % 4 ≡ 0) where
  pub rle-laid : (a : Rle) → has lost_run (words16 rest) ≡ false
      → Laid (with_fields (rle_type a) f rest) (reported a f (numbers_of (range_of f) (words16 rest)))
  unfolding record_of fields_of numbers_shown
  rle-laid a c =
      let v = with_fields (rle_type a) f rest in
      let w = clear-fine (length v) (words16 rest) c in
      record {
        whole = omega arith;
        announces = announces-fields (rle_type a) f rest m;
        shows = rw (kind-rle a, check-fine (Spans (Chunks a)) v refl (fields_fit (rle_type a) f rest (Chunks a)) w)
            (ap (λ (x : Fields). Ok (reported a x (numbers_of (range_of x) (words16 rest))))
            (fields_back (rle_type a) f rest h));
      }

  pub times-laid : Laid (with_fields receipt_type f rest) (received f (pairs_of (range_of f) (words32 rest)))
  unfolding record_of kind_of ranged_of rle_of fields_of pairs_shown
  times-laid =
      let v = with_fields receipt_type f rest in
      record {
        whole = omega arith;
        announces = announces-fields receipt_type f rest m;
        shows = rw (check-fine (Spans Times) v refl (fields_fit receipt_type f rest Times) refl)
            (ap (λ (x : Fields). Ok (received x (pairs_of (range_of x) (words32 rest))))
            (fields_back receipt_type f rest h));
      }

pub clock-laid : (x : ℕ) → x < 2 ^ 64 → Laid (head clock_type 0 8 ++ eight x) (clocked (record { 0 = x }))
unfolding record_of kind_of ranged_of rle_of time_of check_of fitness standard_rule
clock-laid x h =
    record {
      whole = refl;
      announces = λ l. refl;
      shows = ap (λ (t : ℕ). Ok (clocked (record { 0 = t }))) (be64-eight x [] h);
    }

pub echoes-laid : (n : ℕ) (rest : List ℕ) → n ≡ length rest → length rest % 12 ≡ 0
    → Laid (head echo_type 0 n ++ rest) (echoed (echoes_of (words32 rest)))
unfolding record_of kind_of ranged_of rle_of entries_shown standard_rule
echoes-laid n rest e m =
    let v = head echo_type 0 n ++ rest in
    let k : (length v - 4) % 12 ≡ 0 = omega arith in
    record {
      whole = omega arith;
      announces = announces-head echo_type 0 n rest e (omega arith);
      shows = rw (check-fine Echoes v refl (rw (eq-eqb _ _ k)) refl);
    }

-- ---- a summary's numbers, all of them

-- numbers that their bytes can hold
pub record SumsFit (n : Sums) : Type 0 where
  pub ssrc : n.ssrc < 4294967296
  pub begin : n.begin < 65536
  pub end : n.end < 65536
  pub lost : n.lost < 4294967296
  pub duplicates : n.duplicates < 4294967296
  pub least : n.jitter.least < 4294967296
  pub most : n.jitter.most < 4294967296
  pub mean : n.jitter.mean < 4294967296
  pub deviation : n.jitter.deviation < 4294967296

module _ (flags : ℕ) (n : Sums) where
  abbrev sums_block : List ℕ
  sums_block = head summary_type flags 36 ++ sums_bytes n

  sums-back : SumsFit n → sums_at sums_block ≡ n
  sums-back h =
      λ i.
      record {
        ssrc = be32-four n.ssrc (drop 8 sums_block) h.ssrc i;
        begin = be16-two n.begin (drop 10 sums_block) h.begin i;
        end = be16-two n.end (drop 12 sums_block) h.end i;
        lost = be32-four n.lost (drop 16 sums_block) h.lost i;
        duplicates = be32-four n.duplicates (drop 20 sums_block) h.duplicates i;
        jitter = record {
          least = be32-four n.jitter.least (drop 24 sums_block) h.least i;
          most = be32-four n.jitter.most (drop 28 sums_block) h.most i;
          mean = be32-four n.jitter.mean (drop 32 sums_block) h.mean i;
          deviation = be32-four n.jitter.deviation (drop 36 sums_block) h.deviation i;
        };
        hops = n.hops;
      }

  -- shown by the flags that were written
  pub sums-laid : SumsFit n → Laid sums_block (summed (summary_from flags n))
  unfolding record_of kind_of ranged_of rle_of summary_of check_of fitness standard_rule
  sums-laid h =
      record {
        whole = refl;
        announces = λ l. refl;
        shows = ap (λ (x : Sums). Ok (summed (summary_from flags x))) (sums-back h);
      }
