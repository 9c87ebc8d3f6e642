-- A block that is fit to be read in a reading, and the questions about it that are answered. Assumes nothing.
--     no-summary, type-fine    a summary is never fit to be read by the crate; any other block is of the asked type
--     chunks-record, ..        all that it shows, kind by kind
--     numbers-fine, ..         a block of which a question is answered is fit to be read
use Rattle.std.specs.Prelude.{Ok, Err, Some}
use Prim.Native.Nat.{ℕ}
use mathlib.Core.Path.{◌≡◌, refl, ◌∙◌}
use mathlib.Core.Bool.{false}
use mathlib.Core.List.{List}
use native.Mathlib.Omega.{arith}
use lib.ListN.{length}
use lib.Dec.{eqb}
use borrow.Author.Tests.{eqb-true}
use Rattle.def_refusals.specs.Answers.{Or}
use Rattle.laws.proofs.Tests.{by-test}
use Rattle.def_refusals.specs.declared.Refusal.{Refusal}
use Rattle.def_wire.specs.declared.Reading.{Reading}
use Rattle.def_wire.specs.declared.Reading.TheVariants.{Standard, Crate}
use Rattle.def_wire.specs.declared.Rle.{Rle}
use Rattle.def_wire.specs.declared.Rle.TheVariants.{Loss, Duplicate}
use Rattle.def_wire.specs.declared.Ranged.{Ranged}
use Rattle.def_wire.specs.declared.Ranged.TheVariants.{Chunks, Times}
use Rattle.def_wire.specs.declared.Kind.{Kind}
use Rattle.def_wire.specs.declared.Kind.TheVariants.{Spans, Clock, Echoes, Statistics}
use Rattle.def_wire.specs.declared.Fields.{Fields}
use Rattle.def_wire.specs.declared.LongTime.{LongTime}
use Rattle.def_wire.specs.declared.Summary.{Summary}
use Rattle.def_wire.specs.Block.{type_of, kind_type, rle_of, ranged_of, kind_of, known_to, crate_rule}
use Rattle.def_wire.specs.Block.{fitness, check_of, is_cut}
use Rattle.def_wire.specs.Block.{on_checked_fields, on_checked_time, fields_at, time_at, fields_of, time_of}
use Rattle.def_wire.specs.Summary.{on_checked_summary, summary_at, summary_of}
use Rattle.def_standard.specs.declared.Receipt.{Receipt}
use Rattle.def_standard.specs.declared.Echo.{Echo}
use Rattle.def_standard.specs.Standard.{entries_of}
use Rattle.def_questions.specs.Questions.{numbers_in, pairs_in, numbers_shown, pairs_shown, entries_shown}
use Rattle.def_jobs.specs.Shown.{reported, received, clocked, echoed, summed, record_as, record_of}
use Rattle.written.proofs.RecordsLaws.{on_fine_lem}

-- ---- a block of the asked kind

pub kind-type : (k : Kind) → kind_of (kind_type k) ≡ Some k
unfolding kind_of ranged_of rle_of
kind-type (Spans (Chunks Loss)) = refl
kind-type (Spans (Chunks Duplicate)) = refl
kind-type (Spans Times) = refl
kind-type Clock = refl
kind-type Echoes = refl
kind-type Statistics = refl

pub no-fault : {P : Type 0} {x : Refusal} → ◌≡◌ {A = Or (Unit {0})} (Err x) (Ok tt) → P
no-fault {x = x} e = absurd (let z : ◌≡◌ {A = ℕ} 0 1 = cc in omega arith)

-- the crate reading has no question for a summary
module _ (v : List ℕ) where
  pub no-summary : {P : Type 0} → check_of Crate Statistics v ≡ Ok tt → P
  unfolding check_of fitness crate_rule
  no-summary = by-test (eqb (type_of v) (kind_type Statistics)) (λ _ e. no-fault e) (λ _ e. no-fault e)

  -- a block that is fit to be read is of a kind that the reading knows
  known-fine : (r : Reading) (k : Kind) → check_of r k v ≡ Ok tt → known_to r (Some k) ≡ Some k
  known-fine Standard k c = refl
  known-fine Crate (Spans g) c = refl
  known-fine Crate Clock c = refl
  known-fine Crate Echoes c = refl
  known-fine Crate Statistics c = no-summary c

module _ (r : Reading) (v : List ℕ) where
  pub type-fine : (k : Kind) → check_of r k v ≡ Ok tt → type_of v ≡ kind_type k
  unfolding check_of
  type-fine k = by-test (eqb (type_of v) (kind_type k)) (λ t _. eqb-true _ _ t) (λ _ e. no-fault e)

  -- all that it shows
  record-fine : (k : Kind) → check_of r k v ≡ Ok tt → record_of r v ≡ record_as (Some k) r v
  unfolding record_of
  record-fine k c = rw (type-fine k c, kind-type k, known-fine v r k c)

  checked-fields : (c : Or (Unit {0})) (x : Or Fields) (f : Fields) → on_checked_fields c x ≡ Ok f
      → (c ≡ Ok tt) × (x ≡ Ok f)
  checked-fields (Ok _) x f e = (refl, e)
  checked-fields (Err y) x f e = absurd (let z : ◌≡◌ {A = ℕ} 0 1 = cc in omega arith)

  not-cut : (a : Rle) → is_cut r (Chunks a) (length v) ≡ false
  not-cut = by-reading r
    where
      by-reading : (r : Reading) (a : Rle) → is_cut r (Chunks a) (length v) ≡ false
      by-reading Standard a = refl
      by-reading Crate a = refl

  pub chunks-record : (a : Rle) → check_of r (Spans (Chunks a)) v ≡ Ok tt
      → record_of r v ≡ Ok (reported a (fields_at v) (numbers_in r v))
  unfolding fields_of numbers_shown
  chunks-record a c = record-fine (Spans (Chunks a)) c ∙ (rw (c, not-cut a))

  pub times-record : is_cut r Times (length v) ≡ false → check_of r (Spans Times) v ≡ Ok tt
      → record_of r v ≡ Ok (received (fields_at v) (pairs_in r v))
  unfolding fields_of pairs_shown
  times-record n c = record-fine (Spans Times) c ∙ (rw (c, n))

  pub clock-record : check_of r Clock v ≡ Ok tt → record_of r v ≡ Ok (clocked (time_at v))
  unfolding time_of
  clock-record c = record-fine Clock c ∙ (rw c)

  pub echoes-record : check_of r Echoes v ≡ Ok tt → record_of r v ≡ Ok (echoed (entries_of v))
  unfolding entries_shown
  echoes-record c = record-fine Echoes c ∙ (rw c)

  pub sums-record : check_of r Statistics v ≡ Ok tt → record_of r v ≡ Ok (summed (summary_at v))
  unfolding summary_of
  sums-record c = record-fine Statistics c ∙ (rw c)

-- ---- a question that is answered

module _ (r : Reading) (v : List ℕ) where
  pub numbers-fine : (a : Rle) (l : List ℕ) → numbers_shown r a v ≡ Ok l
      → (check_of r (Spans (Chunks a)) v ≡ Ok tt) × (numbers_in r v ≡ l)
  unfolding numbers_shown
  numbers-fine a l = on_fine_lem (check_of r (Spans (Chunks a)) v) (numbers_in r v) l

  pub pairs-fine : (l : List Receipt) → pairs_shown r v ≡ Ok l
      → (check_of r (Spans Times) v ≡ Ok tt) × (pairs_in r v ≡ l)
  unfolding pairs_shown
  pairs-fine l = on_fine_lem (check_of r (Spans Times) v) (pairs_in r v) l

  pub entries-fine : (l : List Echo) → entries_shown r v ≡ Ok l → (check_of r Echoes v ≡ Ok tt) × (entries_of v ≡ l)
  unfolding entries_shown
  entries-fine l = on_fine_lem (check_of r Echoes v) (entries_of v) l

  pub time-fine : (t : LongTime) → time_of r v ≡ Ok t → (check_of r Clock v ≡ Ok tt) × (time_at v ≡ t)
  unfolding time_of
  time-fine t = by-check (check_of r Clock v)
    where
      by-check : (c : Or (Unit {0})) → on_checked_time c (time_at v) ≡ Ok t → (c ≡ Ok tt) × (time_at v ≡ t)
      by-check (Ok _) e = (refl, cc)
      by-check (Err x) e = absurd (let z : ◌≡◌ {A = ℕ} 0 1 = cc in omega arith)

  pub summary-fine : (x : Summary) → summary_of r v ≡ Ok x → (check_of r Statistics v ≡ Ok tt) × (summary_at v ≡ x)
  unfolding summary_of
  summary-fine x = by-check (check_of r Statistics v)
    where
      by-check : (c : Or (Unit {0})) → on_checked_summary c (summary_at v) ≡ Ok x → (c ≡ Ok tt) × (summary_at v ≡ x)
      by-check (Ok _) e = (refl, cc)
      by-check (Err y) e = absurd (let z : ◌≡◌ {A = ℕ} 0 1 = cc in omega arith)

  pub fields-fine : (g : Ranged) (f : Fields) → fields_of r g v ≡ Ok f
      → (check_of r (Spans g) v ≡ Ok tt) × (is_cut r g (length v) ≡ false) × (fields_at v ≡ f)
  unfolding fields_of
  fields-fine g f e =
      let p = checked-fields r v (check_of r (Spans g) v) _ f e in
      by-test (is_cut r g (length v)) (λ _ d. absurd (let z : ◌≡◌ {A = ℕ} 0 1 = cc in omega arith))
      (λ n d. (p.0, n, cc)) p.1
