-- When two records are the same. Assumes nothing.
--     same_self, same_more     a row of numbers is the same as itself, and as no longer one
--     same_row_lem                 rows that are the same are equal
--     same-front               what stands in front of two rows does not matter
--     same_received            records of type 3 with the same fields are the same where their pairs are
--     same-record              records that are the same are equal
use Rattle.std.specs.Prelude.{Option, Some, None}
use Prim.Native.Nat.{ℕ}
use mathlib.Core.Path.{◌≡◌, refl, sym, ap, ap₂, ◌∙◌}
use mathlib.Core.Bool.{Bool, true, false, cond}
use mathlib.Core.List.{List, [], ◌∷◌, ◌++◌}
use lib.ListN.{get_or, drop}
use lib.Dec.{eqb}
use borrow.Author.Tests.{eq-eqb, eqb-true}
use Rattle.def_wire.specs.declared.Spread.{Spread}
use Rattle.def_wire.specs.declared.Kind.{Kind}
use Rattle.laws.proofs.Tests.{and-true, true≢false}
use Rattle.def_wire.specs.declared.Fields.{Fields}
use Rattle.def_wire.specs.declared.Ranged.TheVariants.{Chunks, Times}
use Rattle.def_wire.specs.declared.Kind.TheVariants.{Spans, Clock, Echoes, Statistics}
use Rattle.def_wire.specs.declared.Rle.TheVariants.{Loss, Duplicate}
use Rattle.def_wire.specs.declared.HopsOr.{HopsOr}
use Rattle.def_wire.specs.declared.HopsOr.TheVariants.{NoHops, Ttl, HopLimit, Unknown}
use Rattle.def_wire.specs.declared.Summary.{Summary}
use Rattle.def_wire.specs.Block.{receipt_type, rle_of, ranged_of, kind_of}
use Rattle.def_wire.specs.Summary.{spread, byte_spread, count_if, jitter_if, hops_by}
use Rattle.def_standard.specs.declared.Receipt.{Receipt}
use Rattle.def_standard.specs.declared.Echo.{Echo}
use Rattle.def_standard.specs.Standard.{receipt, echoes_of}
use Rattle.def_jobs.specs.Shown.{Record, reported, received, clocked, echoed, summed, bare, receipt_row, echo_row}
use Rattle.def_jobs.specs.Shown.{count_row, jitter_row, hops_row, summary_row, numbers_row, same_row, same_record}

pub same_self : (l : List ℕ) → same_row l l ≡ true
same_self [] = refl
same_self (x ∷ l) = rw (eq-eqb x x refl) (same_self l)

pub same_more : (l : List ℕ) (x : ℕ) (more : List ℕ) → same_row (l ++ (x ∷ more)) l ≡ false
same_more [] x more = refl
same_more (y ∷ l) x more = rw (eq-eqb y y refl) (same_more l x more)

pub same-front : (l a b : List ℕ) → same_row (l ++ a) (l ++ b) ≡ same_row a b
same-front [] a b = refl
same-front (x ∷ l) a b = rw (eq-eqb x x refl) (same-front l a b)

pub same_received : (f : Fields) (l m : List Receipt)
    → same_record (received f l) (received f m) ≡ same_row (receipt_row l) (receipt_row m)
unfolding numbers_row
same_received f l m =
    same-front (receipt_type ∷ f.ssrc ∷ f.begin ∷ f.end ∷ f.thinning ∷ []) (receipt_row l) (receipt_row m)

pub same_row_lem : (l m : List ℕ) → same_row l m ≡ true → l ≡ m
same_row_lem [] [] h = refl
same_row_lem [] (y ∷ m) h = true≢false h
same_row_lem (x ∷ l) [] h = true≢false h
same_row_lem (x ∷ l) (y ∷ m) h =
    let p = and-true (eqb x y) (same_row l m) h in
    ap₂ (λ (a : ℕ) (b : List ℕ). a ∷ b) (eqb-true x y p.0) (same_row_lem l m p.1)

-- ---- a record read back from its row

abbrev receipts_in : List ℕ → List Receipt
receipts_in [] = []
receipts_in (n ∷ []) = []
receipts_in (n ∷ t ∷ row) = receipt n t ∷ receipts_in row

abbrev fields_in : List ℕ → Fields
fields_in row = record { ssrc = get_or row 0 0; begin = get_or row 1 0; end = get_or row 2 0; thinning = get_or row 3 0 }

-- a number of a summary, by what stands before it, and the row behind it
abbrev is_in : List ℕ → Bool
is_in row = eqb (get_or row 0 0) 1

abbrev count_in : List ℕ → Option ℕ
count_in row = count_if (is_in row) (get_or row 1 0)

abbrev past_count : List ℕ → List ℕ
past_count row = cond (is_in row) (drop 2 row) (drop 1 row)

abbrev jitter_in : List ℕ → Option Spread
jitter_in row = jitter_if (is_in row) (spread (get_or row 1 0) (get_or row 2 0) (get_or row 3 0) (get_or row 4 0))

abbrev past_jitter : List ℕ → List ℕ
past_jitter row = cond (is_in row) (drop 5 row) (drop 1 row)

abbrev hops_in : List ℕ → HopsOr
hops_in row = hops_by (get_or row 0 0) (byte_spread (get_or row 1 0) (get_or row 2 0) (get_or row 3 0) (get_or row 4 0))

abbrev summary_in : List ℕ → Summary
summary_in row = record {
  ssrc = get_or row 0 0;
  begin = get_or row 1 0;
  end = get_or row 2 0;
  lost = count_in (drop 3 row);
  duplicates = count_in (past_count (drop 3 row));
  jitter = jitter_in (past_count (past_count (drop 3 row)));
  hops = hops_in (past_jitter (past_count (past_count (drop 3 row))));
}

abbrev from_row : Option Kind → List ℕ → Record
from_row (Some (Spans (Chunks a))) row = reported a (fields_in row) (drop 4 row)
from_row (Some (Spans Times)) row = received (fields_in row) (receipts_in (drop 4 row))
from_row (Some Clock) row = clocked (record { 0 = get_or row 0 0 })
from_row (Some Echoes) row = echoed (echoes_of row)
from_row (Some Statistics) row = summed (summary_in row)
from_row None row = bare

-- the row's first number is the type
abbrev record_in : List ℕ → Record
record_in row = from_row (kind_of (get_or row 0 0)) (drop 1 row)

receipts-back : (l : List Receipt) → receipts_in (receipt_row l) ≡ l
receipts-back [] = refl
receipts-back (x ∷ l) = ap (λ (m : List Receipt). x ∷ m) (receipts-back l)

echoes-back : (l : List Echo) → echoes_of (echo_row l) ≡ l
unfolding echoes_of
echoes-back [] = refl
echoes-back (x ∷ l) = ap (λ (m : List Echo). x ∷ m) (echoes-back l)

module _ (rest : List ℕ) where
  count-back : (x : Option ℕ) → count_in (count_row x ++ rest) ≡ x
  count-back (Some n) = refl
  count-back None = refl

  past-count : (x : Option ℕ) → past_count (count_row x ++ rest) ≡ rest
  past-count (Some n) = refl
  past-count None = refl

  jitter-back : (x : Option Spread) → jitter_in (jitter_row x ++ rest) ≡ x
  jitter-back (Some y) = refl
  jitter-back None = refl

  past-jitter : (x : Option Spread) → past_jitter (jitter_row x ++ rest) ≡ rest
  past-jitter (Some y) = refl
  past-jitter None = refl

hops-back : (x : HopsOr) → hops_in (hops_row x) ≡ x
hops-back NoHops = refl
hops-back (Ttl y) = refl
hops-back (HopLimit y) = refl
hops-back Unknown = refl

summary-back : (s : Summary) → summary_in (summary_row s) ≡ s
summary-back s =
    let behind = jitter_row s.jitter ++ hops_row s.hops in
    let two : past_count (past_count (drop 3 (summary_row s))) ≡ behind =
    ap past_count (past-count (count_row s.duplicates ++ behind) s.lost) ∙ past-count behind s.duplicates in
    λ i.
    record {
      ssrc = s.ssrc;
      begin = s.begin;
      end = s.end;
      lost = count-back (count_row s.duplicates ++ behind) s.lost i;
      duplicates = (ap count_in (past-count (count_row s.duplicates ++ behind) s.lost)
          ∙ count-back behind s.duplicates) i;
      jitter = (ap jitter_in two ∙ jitter-back (hops_row s.hops) s.jitter) i;
      hops = (ap (λ (l : List ℕ). hops_in (past_jitter l)) two
          ∙ ap hops_in (past-jitter (hops_row s.hops) s.jitter) ∙ hops-back s.hops) i;
    }

record-back : (x : Record) → record_in (numbers_row x) ≡ x
unfolding numbers_row kind_of ranged_of rle_of
record-back (reported Loss f l) = refl
record-back (reported Duplicate f l) = refl
record-back (received f l) = ap (received f) (receipts-back l)
record-back (clocked t) = refl
record-back (echoed l) = ap echoed (echoes-back l)
record-back (summed s) = ap summed (summary-back s)
record-back bare = refl

pub same-record : (x y : Record) → same_record x y ≡ true → x ≡ y
same-record x y h =
    sym (record-back x) ∙ ap record_in (same_row_lem (numbers_row x) (numbers_row y) h) ∙ record-back y
