-- The laws of the crate's doublings and of its test of a number (def_crate's Sequence): the one place that unfolds
-- them. Assumes nothing.
use Rattle.std.specs.Prelude.{Some, None}
use Rattle.std.proofs.Common.{◌≡◌, ℕ, suc, ◌+◌, ◌-◌, ◌*◌, ◌%◌, ◌^◌, ◌<◌, ◌≤◌, true, false, ltb, ap, ◌∙◌, add-zero, mod-eq_of_lt, mul_assoc, arith, pow_pos, pow-add, le-ltb, lt-ltb, le-leb}
use native.Mathlib.Nat.{mod-add-mod, add-mod-mod}
use lib.Pow.{low, mod-mod-pow}
use borrow.Author.Tests.{lt-leb}
use Rattle.def_standard.specs.Range.{circle}
use Rattle.def_crate.specs.Sequence.{doubled_of, sequence_of, passes, offset_sequence, moved_by}
use Rattle.range.specs.Steps.{step_of, onward}

-- ---- doublings

-- nothing is left of a number that is doubled as often as there are bits
pub shl-away : (x k t : ℕ) → k ≤ t → x * 2 ^ t % 2 ^ k ≡ 0
shl-away x k t h =
    let e : t ≡ t - k + k = omega arith in
    let m : x * 2 ^ t ≡ x * 2 ^ (t - k) * 2 ^ k + 0 =
    ap (λ (n : ℕ). x * 2 ^ n) e ∙ (rw (pow-add, ← mul_assoc, add-zero)) in
    ap (λ (n : ℕ). n % 2 ^ k) m ∙ low (x * 2 ^ (t - k)) k (pow_pos k)

-- 16 bits of the product in 64 bits are the product in 16 bits
pub doubled_of-wide : (x t : ℕ) → x * 2 ^ t % 2 ^ 64 % 65536 ≡ doubled_of x t
doubled_of-wide x t = mod-mod-pow (x * 2 ^ t) 48 16

-- ---- the test of a number

module _ (start end s : ℕ) where
  -- the range goes around zero: it fails between end and start only
  pub passes-between : end ≤ start → end ≤ s → s < start → passes start end s ≡ false
  unfolding passes
  passes-between w a b = simp (le-leb _ _ w, le-leb _ _ a, lt-ltb _ _ b)

  pub passes-below : end ≤ start → s < end → passes start end s ≡ true
  unfolding passes
  passes-below w a = let b : s < start = omega arith in simp (le-leb _ _ w, lt-leb _ _ a, lt-ltb _ _ b)

  pub passes-above : end ≤ start → start ≤ s → passes start end s ≡ true
  unfolding passes
  passes-above w a = simp (le-leb _ _ w, le-ltb _ _ a)

  -- it does not: it passes below end
  pub passes-ahead : start < end → passes start end s ≡ ltb s end
  unfolding passes
  passes-ahead w = simp (lt-leb _ _ w)

module _ (q start end t : ℕ) where
  pub offset-passes : passes start end (sequence_of q start t) ≡ true
      → offset_sequence q start end t ≡ Some (sequence_of q start t)
  unfolding offset_sequence
  offset-passes e = rw e

  pub offset-fails : passes start end (sequence_of q start t) ≡ false → offset_sequence q start end t ≡ None
  unfolding offset_sequence
  offset-fails e = rw e

-- ---- numbers one step apart

-- the next place's number is one step on
pub sequence_of-suc : (q start t : ℕ) → sequence_of (suc q) start t ≡ onward (step_of t) (sequence_of q start t)
sequence_of-suc q start t = let m = 2 ^ t in
    let e : suc q * m + start ≡ q * m + start + m = omega arith in
    rw (mod-add-mod (suc q * m) circle start, mod-add-mod (q * m) circle start)
    (rw (mod-add-mod (q * m + start) circle (m % circle), add-mod-mod (q * m + start) m circle)
    (ap (λ (x : ℕ). x % circle) e))

pub sequence_of-zero : (start t : ℕ) → start < 65536 → sequence_of 0 start t ≡ start
sequence_of-zero start t h =
    let z : 0 * 2 ^ t + start ≡ start = omega arith in
    rw (mod-add-mod (0 * 2 ^ t) circle start, z) (mod-eq_of_lt h)

-- a place's number, as a start that moved so far
pub moved-sequence : (q t start : ℕ) → moved_by q t start ≡ sequence_of q start t
moved-sequence q t start =
    let e : start + q * 2 ^ t % 65536 ≡ q * 2 ^ t % 65536 + start = omega arith in ap (λ (x : ℕ). x % 65536) e
