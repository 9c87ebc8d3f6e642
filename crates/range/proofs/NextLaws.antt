-- Where the crate's test fails first, after the start has moved on. Assumes nothing.
--     next-less      it is that many places nearer, as long as it lies beyond them
--     next-never     where no place fails and the start is below end, none ever will
use Rattle.std.proofs.Common.{◌≡◌, ℕ, ◌+◌, ◌-◌, ◌*◌, ◌%◌, ◌^◌, ◌<◌, ◌≤◌, true, false, eqb, ltb, sym, ap, ◌∙◌, mod-lt, mod-eq_of_lt, mul_comm, arith, lit<, pow_pos, ltb-false, ltb-true, le-ltb, lt-ltb, eqb-true}
use native.Mathlib.Nat.{mod-add-mod, add-mod-mod, mod-eq-sub-mod, mul-sub}
use borrow.Author.Tests.{lt-leb, eqb-false}
use Rattle.laws.proofs.Tests.{either, true≢false}
use Rattle.def_crate.specs.Sequence.{passes, sequence_of, moved_by}
use Rattle.range.specs.Inside.{ceil_div}
use Rattle.range.specs.Failing.{gap_of, again_of, never, first_fail}
use Rattle.range.proofs.InsideLaws.{ceil-below, ceil-above, ceil-near, ceil-far}
use Rattle.range.proofs.FailLaws.{gap-high, never-fails, at_first, first-is, first-never}
use Rattle.range.proofs.SequenceLaws.{moved-sequence}

sub-mul : (a b m : ℕ) → (a - b) * m ≡ a * m - b * m
sub-mul a b m = mul_comm (a - b) m ∙ mul-sub m a b ∙ (rw (mul_comm m a, mul_comm m b))

-- places from a moved start are later places from the start
later : (q n t start : ℕ) → sequence_of q (moved_by n t start) t ≡ sequence_of (n + q) start t
later q n t start = let m = 2 ^ t in
    let moved = start + n * m % 65536 in
    let a : q * m + moved ≡ q * m + start + n * m % 65536 = omega arith in
    let b : q * m + start + n * m ≡ (n + q) * m + start = omega arith in
    let c = mod-add-mod ((n + q) * m) 65536 start in
    rw (mod-add-mod (q * m) 65536 (moved % 65536), add-mod-mod (q * m) moved 65536, c)
    (ap (λ (x : ℕ). x % 65536) a ∙ add-mod-mod (q * m + start) (n * m) 65536 ∙ ap (λ (x : ℕ). x % 65536) b)

-- how far end is, by cases
gap_up : (start end : ℕ) → start < end → end < 65536 → gap_of start end ≡ end - start
gap_up start end h e = omega arith

gap_down : (start end : ℕ) → end ≤ start → start < 65536 → gap_of start end ≡ end + 65536 - start
gap_down start end h e = omega arith

-- a start that moved by x, which is nearer than end
module _ (start end x : ℕ) (s : start < 65536) (e : end < 65536) (near : x < gap_of start end) where
  -- it does not reach end from below
  moved_up : start < end → (start + x < end) × ((start + x) % 65536 ≡ start + x)
  moved_up h =
      let k : start + x < end = omega (arith, gap_up start end h e) in
      (k, mod-eq_of_lt (let l : start + x < 65536 = omega arith in l))

  -- from above it stays above, or wraps and stays below
  moved-wrapped : end ≤ start → 65536 ≤ start + x
      → ((start + x) % 65536 ≡ start + x - 65536) × (start + x - 65536 < end)
  moved-wrapped h w =
      let k : start + x - 65536 < end = omega (arith, gap_down start end h s) in
      (mod-eq-sub-mod w ∙ mod-eq_of_lt (let l : start + x - 65536 < 65536 = omega arith in l), k)

  gap-moved : gap_of ((start + x) % 65536) end ≡ gap_of start end - x
  gap-moved =
      either (ltb start end)
      (λ b. let u : start < end = ltb-true _ _ b in
      let m = moved_up u in
      rw (m.1, gap_up (start + x) end m.0 e, gap_up start end u e) (omega arith))
      (λ b. let u : end ≤ start = ltb-false _ _ b in
      either (ltb (start + x) 65536)
      (λ y. let v : start + x < 65536 = ltb-true _ _ y in
      rw (mod-eq_of_lt v, gap_down (start + x) end (omega arith) v, gap_down start end u s) (omega arith))
      (λ z. let v : 65536 ≤ start + x = ltb-false _ _ z in
      let m = moved-wrapped u v in
      rw (m.0, gap_up (start + x - 65536) end m.1 e, gap_down start end u s) (omega arith)))

  -- numbers pass again no sooner
  again-moved : (far : ℕ) → far < again_of start end → far - x < again_of ((start + x) % 65536) end
  again-moved far a =
      either (ltb start end)
      (λ b. let u : start < end = ltb-true _ _ b in
      let c : far < 65536 - start = rw b at a in
      let m = moved_up u in
      rw (m.1, lt-ltb _ _ m.0) (omega arith))
      (λ b. let u : end ≤ start = ltb-false _ _ b in
      let c : far < 65536 = rw b at a in
      either (ltb (start + x) 65536)
      (λ y. let v : start + x < 65536 = ltb-true _ _ y in
      rw (mod-eq_of_lt v, le-ltb _ _ (let z : end ≤ start + x = omega arith in z)) (omega arith))
      (λ z. let v : 65536 ≤ start + x = ltb-false _ _ z in
      let m = moved-wrapped u v in
      rw (m.0, lt-ltb _ _ m.1) (omega arith)))

module _ (start end t n : ℕ) (s : start < 65536) (e : end < 65536) where
  abbrev moved : ℕ
  moved = moved_by n t start

  moved-lt : moved < 65536
  moved-lt = mod-lt (start + n * 2 ^ t % 65536) (lit< tt)

  -- a start below end is tested by end alone
  below : start < end → (x : ℕ) → passes start end x ≡ ltb x end
  unfolding passes
  below h x = rw (lt-leb _ _ h)

  moved-below : start < end → first_fail start end t ≡ never → (q : ℕ) → sequence_of q start t < end
  moved-below h f q = ltb-true _ _ (sym (below h (sequence_of q start t)) ∙ never-fails start end t s e f q)

  -- where no place fails and the start is below end, none ever will
  pub next-never : start < end → first_fail start end t ≡ never → first_fail moved end t ≡ never
  unfolding passes
  next-never h f =
      let low : moved < end = rw (moved-sequence n t start) (moved-below h f n) in
      either (eqb (first_fail moved end t) never) (λ y. eqb-true _ _ y)
      (λ z. let some : first_fail moved end t ≡ never → ⊥ = eqb-false _ _ z in
      let q = first_fail moved end t in
      let bad : passes moved end (sequence_of q moved t) ≡ false = at_first moved end t moved-lt e some in
      let good : passes moved end (sequence_of q moved t) ≡ true =
      rw (lt-leb _ _ low, later q n t start) (lt-ltb _ _ (moved-below h f (n + q))) in
      true≢false (sym bad ∙ good))

  -- not moved at all
  pub next-same : n ≡ 0 → moved ≡ start
  next-same z = let k : start + 0 * 2 ^ t % 65536 ≡ start = omega arith in rw (z, k) (mod-eq_of_lt s)

  abbrev gap : ℕ
  gap = gap_of start end

  abbrev first : ℕ
  first = ceil_div gap (2 ^ t)

  -- where a place fails, it is the first as far as end, and numbers do not yet pass again there
  fails-first : (first_fail start end t ≡ never → ⊥) → first * 2 ^ t < again_of start end
  fails-first some =
      either (ltb (first * 2 ^ t) (again_of start end)) (λ y. ltb-true _ _ y)
      (λ z. absurd (some (sym (first-never start end t s e (ltb-false _ _ z)))))

  module _ (h : n < first) (a : first * 2 ^ t < again_of start end) where
    near : n * 2 ^ t < gap
    near = ceil-near gap (2 ^ t) (pow_pos t) n h

    moved-is : moved ≡ (start + n * 2 ^ t) % 65536
    moved-is =
        let k : n * 2 ^ t < 65536 = omega (arith, near, gap-high start end s e) in
        ap (λ (x : ℕ). (start + x) % 65536) (mod-eq_of_lt k)

    -- end is nearer
    gap-less : gap_of moved end ≡ gap - n * 2 ^ t
    gap-less = ap (λ (m : ℕ). gap_of m end) moved-is ∙ gap-moved start end (n * 2 ^ t) s e near

    less : (first - n) * 2 ^ t ≡ first * 2 ^ t - n * 2 ^ t
    less = sub-mul first n (2 ^ t)

    first-less : ceil_div (gap_of moved end) (2 ^ t) ≡ first - n
    first-less =
        let m = 2 ^ t in
        let g = gap_of moved end in
        let far : gap ≤ first * m = ceil-far gap m (pow_pos t) first (omega arith) in
        let last : (first - 1) * m < gap = ceil-near gap m (pow_pos t) (first - 1) (omega arith) in
        let up = ceil-above g m (pow_pos t) (first - n) (omega (arith, gap-less, less, far)) in
        let step : (first - 1 - n) * m ≡ (first - 1) * m - n * m = sub-mul (first - 1) n m in
        let down = ceil-below g m (pow_pos t) (first - 1 - n) (omega (arith, gap-less, step, last, near)) in
        omega (arith, up, down)

    -- numbers pass again no sooner
    again-less : (first - n) * 2 ^ t < again_of moved end
    again-less = rw (less, moved-is) (again-moved start end (n * 2 ^ t) s e near (first * 2 ^ t) a)

    nearer : first - n ≡ first_fail moved end t
    nearer = sym first-less ∙ first-is moved end t moved-lt e (rw first-less again-less)

  -- it is that many places nearer, as long as it lies beyond them
  pub next-less : n < first_fail start end t → (first_fail start end t ≡ never → ⊥)
      → first_fail start end t - n ≡ first_fail moved end t
  next-less h some =
      let a : first * 2 ^ t < again_of start end = fails-first some in
      let f : first ≡ first_fail start end t = first-is start end t s e a in
      let k : n < first = omega (arith, f, h) in
      ap (λ (x : ℕ). x - n) (sym f) ∙ nearer k a
