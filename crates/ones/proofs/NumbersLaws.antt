-- The standard list, word by word. Assumes nothing.
--     numbers-cons      one word's numbers, and then those of the rest
--     numbers-outside   nothing is listed from a position outside on
--     numbers-along     values from a position on: numbers one step apart, as far as the range goes
use Rattle.std.proofs.Common.{◌≡◌, ℕ, suc, ◌+◌, ◌-◌, ◌<◌, ◌≤◌, false, cond, eqb, ltb, List, [], ◌∷◌, ◌++◌, length, take, refl, ap, arith, length-take, ltb-false, ltb-true}
use lib.Seq.{take-nil}
use Rattle.laws.proofs.Tests.{either, and_false_r, and_true_r}
use Rattle.def_standard.specs.declared.Range.{Range}
use Rattle.def_standard.specs.Chunks.{covers_of, values_in}
use Rattle.def_standard.specs.Listing.{list_from}
use Rattle.def_standard.specs.Range.{number_of}
use Rattle.def_standard.specs.Standard.{is_listed, values_of, numbers_from}
use Rattle.chunk.proofs.ChunkLaws.{length-values_in}
use Rattle.range.specs.Inside.{inside_count}
use Rattle.range.specs.Steps.{step_of}
use Rattle.ones.specs.Along.{along}
use Rattle.ones.specs.Places.{numbers_in, word_numbers}
use Rattle.ones.proofs.ListingLaws.{list_from-append, list_from-none, length-along-le}
use Rattle.range.proofs.InsideLaws.{is-inside, is-outside, number_of-suc}

module _ (g : Range) where
  -- no words, no numbers
  pub numbers-nil : (p : ℕ) → numbers_from g p [] ≡ []
  unfolding numbers_from values_of
  numbers-nil p = refl

  -- one word's numbers, and then those of the rest
  pub numbers-cons : (p w : ℕ) (ws : List ℕ)
      → numbers_from g p (w ∷ ws) ≡ word_numbers g p w ++ numbers_from g (p + covers_of w) ws
  unfolding numbers_from values_of numbers_in
  numbers-cons p w ws =
      rw (← length-values_in w) (list_from-append (is_listed g) (λ q value. number_of g q) p (values_in w) (values_of ws))

  outside-listed : (p q v : ℕ) → inside_count g ≤ p → p ≤ q → is_listed g q v ≡ false
  outside-listed p q v h k = rw (is-outside g q (let j : inside_count g ≤ q = omega arith in j)) (and_false_r (eqb v 1))

  -- nothing is listed from a position outside on
  pub numbers_in-outside : (p : ℕ) (vs : List ℕ) → inside_count g ≤ p → numbers_in g p vs ≡ []
  unfolding numbers_in
  numbers_in-outside p vs h =
      list_from-none (is_listed g) (λ q value. number_of g q) p vs (λ q v k. outside-listed p q v h k)

  pub numbers-outside : (p : ℕ) (ws : List ℕ) → inside_count g ≤ p → numbers_from g p ws ≡ []
  unfolding numbers_from numbers_in
  numbers-outside p ws h = numbers_in-outside p (values_of ws) h

  -- the definition by its short name
  numbers_in-is : (p : ℕ) (vs : List ℕ) → list_from (is_listed g) (λ q value. number_of g q) p vs ≡ numbers_in g p vs
  unfolding numbers_in
  numbers_in-is p vs = refl

  -- a position inside, and the rest
  pub numbers_in-cons : (p v : ℕ) (vs : List ℕ)
      → numbers_in g p (v ∷ vs) ≡ cond (is_listed g p v) (number_of g p ∷ numbers_in g (suc p) vs) (numbers_in g (suc p) vs)
  unfolding numbers_in
  numbers_in-cons p v vs = refl

  -- values from a position on: numbers one step apart, as far as the range goes
  pub numbers-along : (p : ℕ) (vs : List ℕ)
      → numbers_in g p vs ≡ along (step_of g.thinning) (number_of g p) (take (inside_count g - p) vs)
  unfolding numbers_in along
  numbers-along p [] = rw (take-nil (inside_count g - p))
  numbers-along p (v ∷ vs) =
      either (ltb p (inside_count g))
      (λ t. let h : p < inside_count g = ltb-true _ _ t in
      let e : inside_count g - p ≡ suc (inside_count g - suc p) = omega arith in
      rw (e, is-inside g p h, and_true_r, ← number_of-suc g p, ← numbers-along (suc p) vs))
      (λ f. let h : inside_count g ≤ p = ltb-false _ _ f in
      let e : inside_count g - p ≡ 0 = omega arith in
      rw e (numbers_in-outside p (v ∷ vs) h))

  -- no more are listed than are inside
  pub length-numbers : (ws : List ℕ) → length (numbers_from g 0 ws) ≤ inside_count g
  unfolding numbers_from
  length-numbers ws =
      let l = take (inside_count g - 0) (values_of ws) in
      let few = length-along-le (step_of g.thinning) (number_of g 0) l in
      rw (numbers_in-is 0 (values_of ws))
      (omega (arith, ap length (numbers-along 0 (values_of ws)), few, length-take (inside_count g - 0) (values_of ws)))
