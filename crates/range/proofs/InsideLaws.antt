-- Which positions are inside a range, those below `inside_count`, and their numbers, one step apart. Assumes nothing.
use Rattle.std.proofs.Common.{◌≡◌, ℕ, suc, ◌+◌, ◌-◌, ◌*◌, ◌/◌, ◌%◌, ◌^◌, ◌<◌, ◌≤◌, true, false, ltb, sym, ap, ◌∙◌, div-lt_iff_lt-mul, mul-le-mul_left, arith, pow_pos, ltb-false, ltb-true, le-ltb, lt-ltb}
use native.Mathlib.Nat.{div-eq-sub-div, mod-add-mod, add-mod-mod}
use Rattle.laws.proofs.Tests.{either}
use Rattle.def_standard.specs.declared.Range.{Range}
use Rattle.def_standard.specs.Range.{circle, inside, offset_of, number_of}
use Rattle.range.specs.Steps.{step_of, onward}
use Rattle.range.specs.Inside.{ceil_div, inside_count}

-- p times m is below a exactly where p is below a / m rounded up
module _ (a m : ℕ) (h : 0 < m) where
  pub ceil-below : (p : ℕ) → p * m < a → p < ceil_div a m
  unfolding ceil_div
  ceil-below p k =
      either (ltb p (ceil_div a m)) (λ t. ltb-true _ _ t)
      (λ f. let j : ceil_div a m ≤ p = ltb-false _ _ f in
      let l : ceil_div a m < suc p = omega arith in
      absurd (omega (arith, (div-lt_iff_lt-mul h).0 l)))

  pub ceil-above : (p : ℕ) → a ≤ p * m → ceil_div a m ≤ p
  unfolding ceil_div
  ceil-above p k =
      let l : ceil_div a m < suc p = (div-lt_iff_lt-mul h).1 (omega arith) in
      omega arith

  pub ceil-test : (p : ℕ) → ltb (p * m) a ≡ ltb p (ceil_div a m)
  ceil-test p =
      either (ltb (p * m) a)
      (λ t. t ∙ sym (lt-ltb _ _ (ceil-below p (ltb-true _ _ t))))
      (λ f. f ∙ sym (le-ltb _ _ (ceil-above p (ltb-false _ _ f))))

  pub ceil-near : (p : ℕ) → p < ceil_div a m → p * m < a
  ceil-near p k = ltb-true _ _ (ceil-test p ∙ lt-ltb _ _ k)

  pub ceil-far : (p : ℕ) → ceil_div a m ≤ p → a ≤ p * m
  ceil-far p k = ltb-false _ _ (ceil-test p ∙ le-ltb _ _ k)

  pub ceil-le : ceil_div a m ≤ a
  ceil-le = ceil-above a (let k : a * 1 ≤ a * m = mul-le-mul_left a h in omega arith)

  -- rounding up, by rounding down
  pub ceil-zero : a ≡ 0 → ceil_div a m ≡ 0
  ceil-zero e = let k : ceil_div a m ≤ 0 = ceil-above 0 (omega arith) in omega arith

  pub ceil-pos : 0 < a → ceil_div a m ≡ (a - 1) / m + 1
  unfolding ceil_div
  ceil-pos k = let e : a + (m - 1) - m ≡ a - 1 = omega arith in
      div-eq-sub-div h (let l : m ≤ a + (m - 1) = omega arith in l) ∙ (rw e)

module _ (g : Range) where
  -- the positions inside are those below `inside_count`
  pub inside-count : (p : ℕ) → inside g p ≡ ltb p (inside_count g)
  unfolding inside offset_of inside_count
  inside-count p = ceil-test g.size (2 ^ g.thinning) (pow_pos g.thinning) p

  pub inside-count-le : inside_count g ≤ g.size
  unfolding inside_count
  inside-count-le = ceil-le g.size (2 ^ g.thinning) (pow_pos g.thinning)

  pub is-inside : (p : ℕ) → p < inside_count g → inside g p ≡ true
  is-inside p h = inside-count p ∙ lt-ltb _ _ h

  pub is-outside : (p : ℕ) → inside_count g ≤ p → inside g p ≡ false
  is-outside p h = inside-count p ∙ le-ltb _ _ h

  -- the next position's number is one step on
  pub number_of-suc : (p : ℕ) → number_of g (suc p) ≡ onward (step_of g.thinning) (number_of g p)
  unfolding number_of offset_of
  number_of-suc p = let t = 2 ^ g.thinning in
      rw (mod-add-mod (g.begin + p * t) circle (t % circle), add-mod-mod (g.begin + p * t) t circle)
      (ap (λ (x : ℕ). x % circle) (let e : g.begin + suc p * t ≡ g.begin + p * t + t = omega arith in e))
