-- Both readings list a first stretch of the times.
use Rattle.std.proofs.Common.{◌≡◌, ℕ, zero, suc, ◌+◌, ◌-◌, ◌*◌, ◌%◌, ◌^◌, ◌<◌, ◌≤◌, min, ltb, List, [], ◌∷◌, length, sym, refl, ap, ◌∙◌, arith, ltb-false, ltb-true}
use Rattle.laws.proofs.Tests.{either}
use Rattle.def_wire.specs.declared.Fields.{Fields}
use Rattle.def_standard.specs.declared.Range.{Range}
use Rattle.def_standard.specs.declared.Receipt.{Receipt}
use Rattle.def_standard.specs.Range.{offset_of, number_of}
use Rattle.def_standard.specs.Standard.{receipt, pairs_from}
use Rattle.def_crate.specs.Sequence.{sequence_of, passes}
use Rattle.def_crate.specs.Crate.{crate_pairs_from}
use Rattle.range.specs.Grid.{from_begin}
use Rattle.range.specs.Steps.{step_of, onward}
use Rattle.range.specs.Inside.{inside_count}
use Rattle.range.specs.Failing.{first_fail, never}
use Rattle.range.proofs.InsideLaws.{is-inside, is-outside, number_of-suc}
use Rattle.range.proofs.FailLaws.{before-first, at_first}
use Rattle.packet_receipt_time.specs.Pairs.{first_pairs, stepped}

-- ---- first_pairs
module _ (g : Range) where
  pub first-none : (p n : ℕ) (ts : List ℕ) → n ≡ 0 → first_pairs g p n ts ≡ []
  unfolding first_pairs
  first-none p n ts e = rw e

  pub first-cons : (p n m t : ℕ) (ts : List ℕ) → n ≡ suc m
      → first_pairs g p n (t ∷ ts) ≡ receipt (number_of g p) t ∷ first_pairs g (suc p) m ts
  unfolding first_pairs
  first-cons p n m t ts e = rw e

  first-nil : (p n : ℕ) → first_pairs g p n [] ≡ []
  unfolding first_pairs
  first-nil p zero = refl
  first-nil p (suc n) = refl

  -- more than there are is all there are
  pub first-all : (p n : ℕ) (ts : List ℕ) → first_pairs g p n ts ≡ first_pairs g p (min n (length ts)) ts
  unfolding first_pairs
  first-all p zero ts = rw (let e : min 0 (length ts) ≡ 0 = omega arith in e)
  first-all p (suc n) [] = sym (first-nil p (min (suc n) 0))
  first-all p (suc n) (t ∷ ts) =
      ap (λ (l : List Receipt). receipt (number_of g p) t ∷ l) (first-all (suc p) n ts)
      ∙ sym (first-cons p (min (suc n) (suc (length ts))) (min n (length ts)) t ts (omega arith))

-- ---- by a first number and a step
pub first-stepped : (g : Range) (p n : ℕ) (ts : List ℕ)
    → first_pairs g p n ts ≡ stepped (step_of g.thinning) (number_of g p) n ts
unfolding first_pairs stepped
first-stepped g p zero ts = refl
first-stepped g p (suc n) [] = refl
first-stepped g p (suc n) (t ∷ ts) =
    ap (λ (l : List Receipt). receipt (number_of g p) t ∷ l)
    (first-stepped g (suc p) n ts ∙ ap (λ (x : ℕ). stepped (step_of g.thinning) x n ts) (number_of-suc g p))

module _ (step x : ℕ) where
  pub stepped-none : (n : ℕ) (ts : List ℕ) → n ≡ 0 → stepped step x n ts ≡ []
  unfolding stepped
  stepped-none n ts e = rw e

  pub stepped-cons : (n m t : ℕ) (ts : List ℕ) → n ≡ suc m
      → stepped step x n (t ∷ ts) ≡ receipt x t ∷ stepped step (onward step x) m ts
  unfolding stepped
  stepped-cons n m t ts e = rw e

pub length-stepped : (step x n : ℕ) (ts : List ℕ) → length (stepped step x n ts) ≡ min n (length ts)
unfolding stepped
length-stepped step x zero ts = omega arith
length-stepped step x (suc n) [] = omega arith
length-stepped step x (suc n) (t ∷ ts) = let h = length-stepped step (onward step x) n ts in omega arith

-- ---- the standard reading
pub pairs-standard : (g : Range) (p : ℕ) (ts : List ℕ) → pairs_from g p ts ≡ first_pairs g p (inside_count g - p) ts
unfolding pairs_from
pairs-standard g p [] = sym (first-nil g p (inside_count g - p))
pairs-standard g p (t ∷ ts) =
    let rest = pairs-standard g (suc p) ts in
    either (ltb p (inside_count g))
    (λ b. let h : p < inside_count g = ltb-true _ _ b in
    rw (is-inside g p h)
    (ap (λ (l : List Receipt). receipt (number_of g p) t ∷ l) rest
    ∙ sym (first-cons g p (inside_count g - p) (inside_count g - suc p) t ts (omega arith))))
    (λ b. let h : inside_count g ≤ p = ltb-false _ _ b in
    rw (is-outside g p h)
    (rest ∙ first-none g (suc p) (inside_count g - suc p) ts (omega arith)
    ∙ sym (first-none g p (inside_count g - p) (t ∷ ts) (omega arith))))

-- ---- the crate reading: its numbers are those of the range that begins with begin
pub sequence-number : (f : Fields) (p : ℕ) → sequence_of p f.begin f.thinning ≡ number_of (from_begin f) p
unfolding number_of offset_of
sequence-number f p =
    let x = p * 2 ^ f.thinning in
    let e : (x % 65536 + f.begin) % 65536 ≡ (f.begin + x) % 65536 = omega arith in e

module _ (f : Fields) (fits : f.begin < 65536) (fits-end : f.end < 65536) where
  abbrev stop : ℕ
  stop = first_fail f.begin f.end f.thinning

  pub pairs-crate : (p : ℕ) (ts : List ℕ) → p + length ts ≤ never → p ≤ stop
      → crate_pairs_from f p ts ≡ first_pairs (from_begin f) p (stop - p) ts
  unfolding crate_pairs_from
  pairs-crate p [] k h = sym (first-nil (from_begin f) p (stop - p))
  pairs-crate p (t ∷ ts) k h =
      either (ltb p stop)
      (λ b. let l : p < stop = ltb-true _ _ b in
      rw (before-first f.begin f.end f.thinning fits fits-end p l, sequence-number f p)
      (ap (λ (r : List Receipt). receipt (number_of (from_begin f) p) t ∷ r)
      (pairs-crate (suc p) ts (omega arith) (omega arith))
      ∙ sym (first-cons (from_begin f) p (stop - p) (stop - suc p) t ts (omega arith))))
      (λ b. let l : stop ≤ p = ltb-false _ _ b in
      let e : p ≡ stop = omega arith in
      let n : stop ≡ never → ⊥ = λ q. omega arith in
      rw (ap (λ (x : ℕ). passes f.begin f.end (sequence_of x f.begin f.thinning)) e
      ∙ at_first f.begin f.end f.thinning fits fits-end n)
      (sym (first-none (from_begin f) p (stop - p) (t ∷ ts) (omega arith))))
