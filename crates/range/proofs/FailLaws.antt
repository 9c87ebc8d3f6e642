-- Where the crate reading's test fails: between end and where numbers pass again. Assumes nothing.
--     passes-near, passes-between, passes-again     the test of a number by how far it lies from the start
--     before-first      every place before `first_fail` passes
--     at_first          `first_fail` itself fails, unless it is `never`
--     never-fails       where it is, every place passes
--     first_pos         place 0 passes
use Rattle.std.proofs.Common.{◌≡◌, ℕ, ◌+◌, ◌-◌, ◌*◌, ◌%◌, ◌^◌, ◌<◌, ◌≤◌, true, false, ltb, leb, refl, ap, ◌∙◌, add-zero, mul-le-mul_right, mod-lt, mod-eq_of_lt, mul_assoc, arith, lit<, pow_pos, pow_mono, pow-add, shl_exact, ltb-false, ltb-true, le-ltb, lt-ltb, le-leb, leb-false, leb-true}
use native.Mathlib.Nat.{mul-mod_left}
use lib.Pow.{mod-pow-add, shl-shr}
use borrow.Author.Tests.{lt-leb}
use Rattle.laws.proofs.Tests.{either, both}
use Rattle.def_crate.specs.Sequence.{passes, sequence_of, doubled_of}
use Rattle.range.specs.Inside.{ceil_div}
use Rattle.range.specs.Failing.{gap_of, again_of, never, first_fail}
use Rattle.range.proofs.InsideLaws.{ceil-near, ceil-far, ceil-le, ceil-below, ceil-above}

module _ (start end : ℕ) (s : start < 65536) (e : end < 65536) where
  -- end lies at most a whole circle beyond the start
  pub gap-low : 1 ≤ gap_of start end
  gap-low = omega arith

  pub gap-high : gap_of start end ≤ 65536
  gap-high = omega arith

  pub again-high : again_of start end ≤ 65536
  again-high = either (ltb start end) (λ t. rw t (omega arith)) (λ f. rw f (omega arith))

  -- nearer than end
  pub passes-near : (d : ℕ) → d < gap_of start end → passes start end ((d + start) % 65536) ≡ true
  unfolding passes
  passes-near d h =
      either (leb end start)
      (λ t. let k : end ≤ start = leb-true _ _ t in
      rw t
      (either (ltb ((d + start) % 65536) start)
      (λ u. let l : (d + start) % 65536 < start = ltb-true _ _ u in
      let n : (d + start) % 65536 < end = omega arith in rw (u, lt-leb _ _ n))
      (λ v. rw v)))
      (λ f. let k : start < end = leb-false _ _ f in
      let n : (d + start) % 65536 < end = omega arith in rw (f, lt-ltb _ _ n))

  -- from end on
  pub passes-between : (d : ℕ) → gap_of start end ≤ d → d < again_of start end
      → passes start end ((d + start) % 65536) ≡ false
  unfolding passes
  passes-between d h a =
      either (leb end start)
      (λ t. let k : end ≤ start = leb-true _ _ t in
      let b : d < 65536 = rw (le-ltb _ _ k) at a in
      let l : (d + start) % 65536 < start = omega arith in
      let n : end ≤ (d + start) % 65536 = omega arith in
      rw (t, lt-ltb _ _ l, le-leb _ _ n))
      (λ f. let k : start < end = leb-false _ _ f in
      let b : d < 65536 - start = rw (lt-ltb _ _ k) at a in
      let n : end ≤ (d + start) % 65536 = omega arith in
      rw (f, le-ltb _ _ n))

  -- past the top of the circle
  pub passes-again : (d : ℕ) → d < 65536 → again_of start end ≤ d → passes start end ((d + start) % 65536) ≡ true
  unfolding passes
  passes-again d h a =
      either (leb end start)
      (λ t. let k : end ≤ start = leb-true _ _ t in
      let b : 65536 ≤ d = rw (le-ltb _ _ k) at a in
      absurd (omega arith))
      (λ f. let k : start < end = leb-false _ _ f in
      let b : 65536 - start ≤ d = rw (lt-ltb _ _ k) at a in
      let n : (d + start) % 65536 < end = omega arith in
      rw (f, lt-ltb _ _ n))

-- a place's distance, wrapped, is a multiple of the step
doubled-multiple : (q t : ℕ) → t ≤ 16 → doubled_of q t ≡ q % 2 ^ (16 - t) * 2 ^ t
doubled-multiple q t h =
    let e : 16 ≡ 16 - t + t = omega arith in
    ap (λ (k : ℕ). q * 2 ^ t % 2 ^ k) e
    ∙ mod-pow-add (q * 2 ^ t) (16 - t) t
    ∙ (rw (shl-shr q t, mul-mod_left q (2 ^ t)) (add-zero (q % 2 ^ (16 - t) * 2 ^ t)))

-- a step of the whole circle or more goes nowhere
pub doubled-nowhere : (q t : ℕ) → 16 ≤ t → doubled_of q t ≡ 0
doubled-nowhere q t h =
    let e : t ≡ t - 16 + 16 = omega arith in
    ap (λ (k : ℕ). q * 2 ^ k % 65536) e
    ∙ (rw (pow-add 2 (t - 16) 16, ← mul_assoc q (2 ^ (t - 16)) (2 ^ 16)) (mul-mod_left (q * 2 ^ (t - 16)) 65536))

module _ (start end t : ℕ) (s : start < 65536) (e : end < 65536) where
  abbrev gap : ℕ
  gap = gap_of start end

  abbrev first : ℕ
  first = ceil_div gap (2 ^ t)

  first_one : 0 < first
  first_one = ceil-below gap (2 ^ t) (pow_pos t) 0 (omega (arith, gap-low start end s e))

  -- a place nearer than end
  near : (q : ℕ) → q < first → passes start end (sequence_of q start t) ≡ true
  near q h =
      let k : q * 2 ^ t < gap = ceil-near gap (2 ^ t) (pow_pos t) q h in
      let l : q * 2 ^ t < 65536 = omega (arith, gap-high start end s e) in
      rw (mod-eq_of_lt l) (passes-near start end s e (q * 2 ^ t) k)

  -- where the first place as far as end lies where numbers pass again, no place fails
  none : again_of start end ≤ first * 2 ^ t → (q : ℕ) → passes start end (sequence_of q start t) ≡ true
  none a q =
      either (ltb (doubled_of q t) gap)
      (λ u. passes-near start end s e (doubled_of q t) (ltb-true _ _ u))
      (λ v. let far : gap ≤ doubled_of q t = ltb-false _ _ v in
      either (leb t 16)
      (λ x. let p = q % 2 ^ (16 - t) in
      let m : doubled_of q t ≡ p * 2 ^ t = doubled-multiple q t (leb-true _ _ x) in
      let c : first ≤ p = ceil-above gap (2 ^ t) (pow_pos t) p (omega (arith, m, far)) in
      let l : first * 2 ^ t ≤ p * 2 ^ t = mul-le-mul_right (2 ^ t) c in
      passes-again start end s e (doubled_of q t) (mod-lt (q * 2 ^ t) (lit< tt)) (omega (arith, m, l, a)))
      (λ y. let b : 16 < t = leb-false _ _ y in
      let z : doubled_of q t ≡ 0 = doubled-nowhere q t (omega arith) in
      absurd (omega (arith, z, far, gap-low start end s e))))

  -- every place before `first_fail` passes
  pub before-first : (q : ℕ) → q < first_fail start end t → passes start end (sequence_of q start t) ≡ true
  unfolding first_fail
  before-first q =
      either (ltb (first * 2 ^ t) (again_of start end))
      (λ u. rw u (near q))
      (λ v. λ _. none (ltb-false _ _ v) q)

  -- `first_fail` itself fails, unless it is `never`
  pub at_first : (first_fail start end t ≡ never → ⊥)
      → passes start end (sequence_of (first_fail start end t) start t) ≡ false
  unfolding first_fail
  at_first =
      either (ltb (first * 2 ^ t) (again_of start end))
      (λ u. rw u (λ _. let k : first * 2 ^ t < again_of start end = ltb-true _ _ u in
      let l : first * 2 ^ t < 65536 = omega (arith, again-high start end s e) in
      let g : gap ≤ first * 2 ^ t = ceil-far gap (2 ^ t) (pow_pos t) first (omega arith) in
      rw (mod-eq_of_lt l) (passes-between start end s e (first * 2 ^ t) g k)))
      (λ v. rw v (λ n. absurd (n refl)))

  -- place 0 passes
  pub first_pos : 0 < first_fail start end t
  unfolding first_fail
  first_pos =
      both (λ (n : ℕ). 0 < n) (ltb (first * 2 ^ t) (again_of start end)) (λ _. first_one) (λ _. omega arith)

  -- where it is, every place passes
  pub never-fails : first_fail start end t ≡ never → (q : ℕ) → passes start end (sequence_of q start t) ≡ true
  unfolding first_fail
  never-fails =
      either (ltb (first * 2 ^ t) (again_of start end))
      (λ u. rw u (λ n. absurd (omega (arith, n, ceil-le gap (2 ^ t) (pow_pos t), gap-high start end s e))))
      (λ v. λ _. none (ltb-false _ _ v))

  -- the two cases of `first_fail`
  pub first-is : first * 2 ^ t < again_of start end → first ≡ first_fail start end t
  unfolding first_fail
  first-is h = rw (lt-ltb _ _ h)

  pub first-never : again_of start end ≤ first * 2 ^ t → never ≡ first_fail start end t
  unfolding first_fail
  first-never h = rw (le-ltb _ _ h)

  -- a step of the whole circle or more never fails
  pub first-nowhere : 16 ≤ t → never ≡ first_fail start end t
  first-nowhere h =
      let p : 2 ^ 16 ≤ 2 ^ t = pow_mono h in
      let one : 0 < first = first_one in
      let l : 1 * 2 ^ t ≤ first * 2 ^ t = mul-le-mul_right (2 ^ t) one in
      first-never (omega (arith, again-high start end s e, l, p))

  -- it is at most a circle's worth of steps, so its distance does not wrap
  pub first_fits : t < 16 → first * 2 ^ t % 2 ^ 64 ≡ first * 2 ^ t
  first_fits h =
      let k : first < 2 ^ 17 = omega (arith, ceil-le gap (2 ^ t) (pow_pos t), gap-high start end s e) in
      shl_exact 17 t 64 k (omega arith)
