-- The range of a block's fields, from the first number on its grid on (def_standard's Range): the one place that
-- unfolds `ahead_of` and `range_of`. Assumes nothing.
--     ahead-on, ahead-off             how far the grid's first number lies ahead, by where begin stands
--     grid-sum, sum-on-grid           that number is begin rounded up, and on the grid
--     range_size, range-begin         what is reported on lies on the circle
--     inside-ahead, number-ahead      a position's test and its number, by d
--     number-grid, listed-grid        every number lies where the first does on the grid; a block's, on it
--     range-on-grid, begin-on-grid    where begin is on the grid the range is the crate's, and there only
--     whole-on-grid                   by thinning 0 it always is
use Rattle.std.proofs.Common.{◌≡◌, ℕ, zero, suc, ◌+◌, ◌-◌, ◌*◌, ◌/◌, ◌%◌, ◌^◌, ◌<◌, ◌≤◌, min, true, eqb, ltb, leb, sym, refl, ap, ◌∙◌, mod-lt, mod-eq_of_lt, arith, lit<, pow_pos, pow_mono, pow-add, ltb-false, ltb-true, le-ltb, lt-ltb, eq-eqb, ne_eqb, eqb-true, leb-false, leb-true}
use native.Mathlib.Nat.{mod_self, div-add-mod, mul-mod_left, mod-add-mod, add-mul-mod_self_right}
use native.Mathlib.Nat.{sub-zero, mod-one}
use lib.Pow.{mod-mod-pow}
use borrow.Author.Tests.{eqb-false}
use Rattle.laws.proofs.Tests.{either, both}
use Rattle.def_wire.specs.declared.Fields.{Fields}
use Rattle.def_standard.specs.declared.Range.{Range}
use Rattle.def_standard.specs.Range.{circle, size_of, ahead_of, range_of, offset_of, inside, number_of}
use Rattle.range.specs.Grid.{on_grid, from_begin}
use Rattle.range.specs.Inside.{ceil_div, inside_count}
use Rattle.range.proofs.InsideLaws.{ceil-below, ceil-above, ceil-far}

-- ---- rounding up

-- so many whole steps are not rounded off
ceil-reach : (a m : ℕ) → 0 < m → (q : ℕ) → q * m ≤ a → q ≤ ceil_div a m
ceil-reach a m h zero k = omega arith
ceil-reach a m h (suc q) k = ceil-below a m h q (omega arith)

-- what a number leaves by a step that divides the circle, it leaves there too
mod-circle : (x t : ℕ) → t ≤ 16 → x % circle % 2 ^ t ≡ x % 2 ^ t
mod-circle x t h =
    let e : 16 ≡ 16 - t + t = omega arith in ap (λ (n : ℕ). x % 2 ^ n % 2 ^ t) e ∙ mod-mod-pow x (16 - t) t

-- ---- how far ahead

module _ (b t : ℕ) where
  abbrev m : ℕ
  m = 2 ^ t

  pub ahead-on : b % 2 ^ t ≡ 0 → ahead_of b t ≡ 0
  unfolding ahead_of
  ahead-on e = rw (e, sub-zero (2 ^ t)) (mod_self (2 ^ t))

  pub ahead-off : (b % 2 ^ t ≡ 0 → ⊥) → ahead_of b t ≡ 2 ^ t - b % 2 ^ t
  unfolding ahead_of
  ahead-off n = mod-eq_of_lt (let l : m - b % m < m = omega (arith, pow_pos t) in l)

  pub ahead-less : ahead_of b t < 2 ^ t
  unfolding ahead_of
  ahead-less = mod-lt (m - b % m) (pow_pos t)

  -- the grid's first number from begin on
  pub grid-sum : b + ahead_of b t ≡ ceil_div b (2 ^ t) * 2 ^ t
  grid-sum =
      let q = b / m in
      let r = b % m in
      let e : m * q + r ≡ b = div-add-mod b m in
      let l : r < m = mod-lt b (pow_pos t) in
      either (eqb r 0)
      (λ u. let z : r ≡ 0 = eqb-true _ _ u in
      let c : ceil_div b m ≡ q = let above = ceil-above b m (pow_pos t) q (omega arith) in
      let below : q ≤ ceil_div b m = ceil-reach b m (pow_pos t) q (omega arith) in omega arith in
      rw (ahead-on z, c) (omega arith))
      (λ v. let n : r ≡ 0 → ⊥ = eqb-false _ _ v in
      let c : ceil_div b m ≡ suc q = let above = ceil-above b m (pow_pos t) (suc q) (omega arith) in
      let below = ceil-below b m (pow_pos t) q (omega arith) in omega arith in
      rw (ahead-off n, c) (omega arith))

-- and is on the grid
pub sum-on-grid : (b t : ℕ) → (b + ahead_of b t) % 2 ^ t ≡ 0
sum-on-grid b t = ap (λ (n : ℕ). n % 2 ^ t) (grid-sum b t) ∙ mul-mod_left (ceil_div b (2 ^ t)) (2 ^ t)

-- ---- of a block's fields

pub size_fits : (b e : ℕ) → size_of b e ≤ circle
size_fits b e = both (λ (n : ℕ). n ≤ circle) (eqb b e) (λ _. omega arith) (λ _. omega arith)

-- by a thinning as large as this or larger, 0 alone is on the grid
module _ (b t : ℕ) (h : b < 65536) (k : 16 ≤ t) where
  low : 65536 ≤ 2 ^ t
  low = pow_mono k

  far-zero : b ≡ 0 → ahead_of b t ≡ 0
  far-zero z = ahead-on b t (mod-eq_of_lt (let l : b < 2 ^ t = omega (arith, low) in l) ∙ z)

  far-sum : (b ≡ 0 → ⊥) → b + ahead_of b t ≡ 2 ^ t
  far-sum n =
      let r : b % 2 ^ t ≡ b = mod-eq_of_lt (let l : b < 2 ^ t = omega (arith, low) in l) in
      let e : ahead_of b t ≡ 2 ^ t - b % 2 ^ t = ahead-off b t (λ z. n (sym r ∙ z)) in
      omega (arith, low)

  far-first : (b + ahead_of b t) % circle ≡ 0
  far-first =
      either (eqb b 0)
      (λ u. let z : b ≡ 0 = eqb-true _ _ u in rw (far-zero z, z))
      (λ v. rw (far-sum (eqb-false _ _ v))
      (let e : t ≡ t - 16 + 16 = omega arith in
      ap (λ (n : ℕ). 2 ^ n % circle) e ∙ (rw (pow-add 2 (t - 16) 16) (mul-mod_left (2 ^ (t - 16)) circle))))

-- so from 17 on every thinning comes to the same
module _ (b t : ℕ) (h : b < 65536) (k : 17 ≤ t) where
  far-begin : (b + ahead_of b 17) % circle ≡ (b + ahead_of b t) % circle
  far-begin = far-first b 17 h (omega arith) ∙ sym (far-first b t h (omega arith))

  far-size : (e : ℕ) → size_of b e - ahead_of b 17 ≡ size_of b e - ahead_of b t
  far-size e =
      let long : 131072 ≤ 2 ^ t = pow_mono k in
      either (eqb b 0)
      (λ u. let z : b ≡ 0 = eqb-true _ _ u in rw (far-zero b 17 h (omega arith) z, far-zero b t h (omega arith) z))
      (λ v. let n = eqb-false _ _ v in
      let size = size_fits b e in
      let near = far-sum b 17 h (omega arith) n in
      let far = far-sum b t h (omega arith) n in
      omega arith)

-- what holds by t, and by 17 where t is larger, holds by the lesser of the two
by-lesser : (P : ℕ → Type 0) (t : ℕ) → P t → (17 ≤ t → P 17) → P (min t 17)
by-lesser P t a b =
    either (ltb t 17)
    (λ u. let l : t < 17 = ltb-true _ _ u in rw (let e : min t 17 ≡ t = omega arith in e) a)
    (λ v. let l : 17 ≤ t = ltb-false _ _ v in rw (let e : min t 17 ≡ 17 = omega arith in e) (b l))

module _ (b t : ℕ) (h : b < 65536) where
  near-begin : (b + ahead_of b (min t 17)) % circle ≡ (b + ahead_of b t) % circle
  near-begin = by-lesser (λ (n : ℕ). (b + ahead_of b n) % circle ≡ (b + ahead_of b t) % circle) t refl (far-begin b t h)

  near-size : (e : ℕ) → size_of b e - ahead_of b (min t 17) ≡ size_of b e - ahead_of b t
  near-size e =
      by-lesser (λ (n : ℕ). size_of b e - ahead_of b n ≡ size_of b e - ahead_of b t) t refl (λ l. far-size b t h l e)

-- ---- on the grid

-- every number of a range lies where its first does
pub number-grid : (g : Range) (p : ℕ) → g.thinning ≤ 16
    → number_of g p % 2 ^ g.thinning ≡ g.begin % 2 ^ g.thinning
unfolding number_of offset_of
number-grid g p h =
    let t = g.thinning in
    mod-circle (g.begin + p * 2 ^ t) t h ∙ add-mul-mod_self_right g.begin p (2 ^ t)

module _ (f : Fields) where
  abbrev b : ℕ
  b = f.begin

  abbrev t : ℕ
  t = f.thinning

  abbrev d : ℕ
  d = ahead_of f.begin f.thinning

  -- from what was found of it
  pub range-from : (first size : ℕ) → first ≡ b + ahead_of f.begin (min f.thinning 17) → f.begin < 65536
      → size ≡ size_of f.begin f.end - (first - f.begin)
      → record { begin = first % 65536; size = size; thinning = f.thinning } ≡ range_of f
  unfolding range_of
  range-from first size e h k =
      let z : first - f.begin ≡ ahead_of f.begin (min f.thinning 17) = omega arith in
      rw (k, z, e, near-begin b t h, near-size b t h f.end)

  pub range-thinning : (range_of f).thinning ≡ f.thinning
  unfolding range_of
  range-thinning = refl

  pub range-begin : (range_of f).begin < 65536
  unfolding range_of
  range-begin = mod-lt (b + d) (lit< tt)

  pub range_size : (range_of f).size ≤ circle
  unfolding range_of
  range_size = omega (arith, size_fits f.begin f.end)

  -- a position's test and its number, by d
  pub inside-ahead : (p : ℕ) → inside (range_of f) p ≡ ltb (ahead_of f.begin f.thinning + p * 2 ^ f.thinning)
      (size_of f.begin f.end)
  unfolding range_of inside offset_of
  inside-ahead p =
      let x = p * 2 ^ t in
      let r = size_of f.begin f.end in
      either (ltb (d + x) r)
      (λ u. let l : d + x < r = ltb-true _ _ u in
      let n : x < r - d = omega arith in lt-ltb _ _ n ∙ sym u)
      (λ v. let l : r ≤ d + x = ltb-false _ _ v in
      let n : r - d ≤ x = omega arith in le-ltb _ _ n ∙ sym v)

  pub number-ahead : (p : ℕ) → number_of (range_of f) p
      ≡ (f.begin + ahead_of f.begin f.thinning + p * 2 ^ f.thinning) % circle
  unfolding range_of number_of offset_of
  number-ahead p = mod-add-mod (b + d) circle (p * 2 ^ t)

  -- a block's numbers are on its grid
  pub listed-grid : (p : ℕ) → f.thinning ≤ 16 → number_of (range_of f) p % 2 ^ f.thinning ≡ 0
  unfolding range_of
  listed-grid p h = number-grid (range_of f) p h ∙ mod-circle (b + d) t h ∙ sum-on-grid b t

  -- no more of them than the crate counts
  pub inside-fewer : inside_count (range_of f) ≤ inside_count (from_begin f)
  unfolding range_of inside_count
  inside-fewer =
      let m = 2 ^ t in
      let r = size_of f.begin f.end in
      let far : r ≤ ceil_div r m * m = ceil-far r m (pow_pos t) (ceil_div r m) (omega arith) in
      ceil-above (r - d) m (pow_pos t) (ceil_div r m) (omega arith)

  -- every number is on the grid of thinning 0
  pub whole-on-grid : f.thinning ≡ 0 → on_grid f ≡ true
  whole-on-grid z = rw z (eq-eqb _ _ (mod-one f.begin))

  -- where begin is on the grid the range is the crate's
  module _ (fits : f.begin < 65536) where
    pub range-on-grid : on_grid f ≡ true → range_of f ≡ from_begin f
    unfolding range_of
    range-on-grid on =
        let z : d ≡ 0 = ahead-on b t (eqb-true _ _ on) in
        let e : (b + 0) % 65536 ≡ b = omega arith in
        rw (z, e, sub-zero (size_of f.begin f.end))

    -- and there only it begins with begin
    pub begin-on-grid : eqb (range_of f).begin f.begin ≡ on_grid f
    unfolding range_of
    begin-on-grid =
        either (on_grid f)
        (λ u. let z : d ≡ 0 = ahead-on b t (eqb-true _ _ u) in
        let e : (b + d) % 65536 ≡ b = omega arith in eq-eqb _ _ e ∙ sym u)
        (λ v. let rest : b % 2 ^ t ≡ 0 → ⊥ = eqb-false _ _ v in
        let less : b % 2 ^ t < 2 ^ t = mod-lt b (pow_pos t) in
        let n : d ≡ 0 → ⊥ = λ z. omega (arith, z, ahead-off b t rest) in
        let away : (b + d) % 65536 ≡ b → ⊥ = either (ltb t 16)
        (λ x. let less : t < 16 = ltb-true _ _ x in
        let short : 2 ^ t ≤ 2 ^ 15 = pow_mono (let l : t ≤ 15 = omega arith in l) in
        let l = ahead-less b t in λ e. omega arith)
        (λ y. let k : 16 ≤ t = ltb-false _ _ y in
        λ e. n (far-zero b t fits k (sym e ∙ far-first b t fits k))) in
        ne_eqb _ _ away ∙ sym v)

-- ---- begin moved up to the grid

-- from there on there are d numbers less
size-moved : (b e d : ℕ) → b < 65536 → e < 65536 → d < size_of b e → size_of ((b + d) % circle) e ≡ size_of b e - d
size-moved b e d h k l =
    let x = (b + d) % circle in
    either (eqb b e)
    (λ u. let same : b ≡ e = eqb-true _ _ u in
    let less : d < circle = rw u at l in
    either (eqb x e)
    (λ t. let z : x ≡ e = eqb-true _ _ t in rw (u, t) (omega arith))
    (λ t. let z : x ≡ e → ⊥ = eqb-false _ _ t in rw (u, t) (omega arith)))
    (λ v. let other : b ≡ e → ⊥ = eqb-false _ _ v in
    let less : d < (e + circle - b) % circle = rw v at l in
    either (eqb x e)
    (λ t. let z : x ≡ e = eqb-true _ _ t in absurd (omega arith))
    (λ t. let z : x ≡ e → ⊥ = eqb-false _ _ t in rw (v, t) (omega arith)))

-- and it is on the grid
moved-on-grid : (b t : ℕ) → b < 65536 → ahead_of ((b + ahead_of b t) % circle) t ≡ 0
moved-on-grid b t h =
    either (leb t 16)
    (λ u. let x = b + ahead_of b t in
    ahead-on (x % circle) t (mod-circle x t (leb-true _ _ u) ∙ sum-on-grid b t))
    (λ v. let k : 16 < t = leb-false _ _ v in
    let z : (b + ahead_of b t) % circle ≡ 0 = far-first b t h (omega arith) in
    rw z (far-zero 0 t (omega arith) (omega arith) refl))

pub range_moved : (f : Fields) → f.begin < 65536 → f.end < 65536
    → ahead_of f.begin f.thinning < size_of f.begin f.end
    → range_of (record {
      ssrc = f.ssrc;
      begin = (f.begin + ahead_of f.begin f.thinning) % circle;
      end = f.end;
      thinning = f.thinning;
    }) ≡ range_of f
unfolding range_of
range_moved f h k l =
    let d = ahead_of f.begin f.thinning in
    let b = (f.begin + d) % circle in
    let z : (b + 0) % 65536 ≡ b = omega arith in
    rw (moved-on-grid f.begin f.thinning h, z, sub-zero (size_of b f.end))
    (rw (size-moved f.begin f.end d h k l))
