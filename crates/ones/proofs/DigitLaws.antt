-- A vector's places as the binary digits of a number, most significant first, and its ones from the highest down.
-- Assumes nothing.
--     digits                  the k digits of a number
--     digits_append           the first of them are those of what is left when the others are shifted out
--     digits-vector           a vector's first places are digits
--     along-top, stop-top     the highest one, and then the others
use Rattle.std.proofs.Common.{◌≡◌, ℕ, zero, suc, ◌+◌, ◌-◌, ◌*◌, ◌/◌, ◌%◌, ◌^◌, ◌<◌, ◌≤◌, Bool, true, false, cond, not, ltb, List, [], ◌∷◌, ◌++◌, length, take, replicate, sym, refl, ap, ◌∙◌, add-zero, mod-lt, mod-eq_of_lt, pow-suc, arith, lit<, take_all, take_at, pow_pos, pow_mono, shr-shr, ltb-false, ltb-true}
use native.Mathlib.Nat.{div-eq_of_lt, mod-add-mod}
use lib.Pow.{field, mod-mod-pow, high, low}
use Rattle.laws.proofs.Tests.{either}
use Rattle.def_standard.specs.Chunks.{values_in}
use Rattle.def_crate.specs.Sequence.{passes, sequence_of}
use Rattle.chunk.proofs.ChunkLaws.{values-take-vector, length-values_in, covers-vector}
use Rattle.range.specs.Steps.{onward}
use Rattle.ones.specs.Along.{along}
use Rattle.ones.specs.Digits.{Top}
use Rattle.ones.specs.Stops.{stop_from}
use Rattle.ones.proofs.ListingLaws.{along-zeros}

unfoldable pub digits : ℕ → ℕ → List ℕ
digits zero v = []
digits (suc k) v = v / 2 ^ k % 2 ∷ digits k v

pub length_digits : (k v : ℕ) → length (digits k v) ≡ k
unfolding digits
length_digits zero v = refl
length_digits (suc k) v = ap suc (length_digits k v)

pub digits_append : (n m v : ℕ) → digits (n + m) v ≡ digits n (v / 2 ^ m) ++ digits m v
unfolding digits
digits_append zero m v = let e : 0 + m ≡ m = omega arith in rw e
digits_append (suc n) m v =
    let e : suc n + m ≡ suc (n + m) = omega arith in
    let c : n + m ≡ m + n = omega arith in
    let d : v / 2 ^ (n + m) ≡ v / 2 ^ m / 2 ^ n = ap (λ (x : ℕ). v / 2 ^ x) c ∙ sym (shr-shr v m n) in
    rw (e, d, digits_append n m v)

-- digits above change none below
pub digits_mod : (i k v : ℕ) → i ≤ k → digits i (v % 2 ^ k) ≡ digits i v
unfolding digits
digits_mod zero k v h = refl
digits_mod (suc i) k v h =
    let j = k - i - 1 in
    let e : k ≡ j + 1 + i = omega arith in
    let d : v % 2 ^ k / 2 ^ i % 2 ≡ v / 2 ^ i % 2 =
    ap (λ (x : ℕ). v % 2 ^ x / 2 ^ i % 2) e ∙ (rw (field v (j + 1) i) (mod-mod-pow (v / 2 ^ i) j 1)) in
    rw (d, digits_mod i k v (omega arith))

digit_low : (k v : ℕ) → v < 2 ^ k → v / 2 ^ k % 2 ≡ 0
digit_low k v h = rw (div-eq_of_lt h)

pub digits-zero : (k : ℕ) → digits k 0 ≡ replicate k 0
unfolding digits
digits-zero zero = refl
digits-zero (suc k) = rw (digit_low k 0 (pow_pos k), digits-zero k)

module _ (w : ℕ) (h : 32768 ≤ w) where
  -- a vector's places are its 15 digits
  pub digits-all : values_in w ≡ digits 15 w
  unfolding digits
  digits-all =
      sym (take_all 15 (values_in w) (omega (arith, length-values_in w, covers-vector w h))) ∙ values-take-vector w 15 h

  -- and its first places those of what is left when the others are shifted out
  pub digits-vector : (room : ℕ) → room ≤ 15 → take room (values_in w) ≡ digits room (w % 32768 / 2 ^ (15 - room))
  digits-vector room k =
      let e : room + (15 - room) ≡ 15 = omega arith in
      let v = w / 2 ^ (15 - room) in
      ap (take room) (digits-all ∙ ap (λ (n : ℕ). digits n w) (sym e) ∙ digits_append room (15 - room) w)
      ∙ take_at (digits room v) (digits (15 - room) w) room (length_digits room v)
      ∙ sym (digits_mod room room v (omega arith))
      ∙ ap (digits room) (sym (field w room (15 - room)) ∙ ap (λ (x : ℕ). w % 2 ^ x / 2 ^ (15 - room)) e)

-- it is one of k digits
pub top_below : {v j : ℕ} (k : ℕ) → v < 2 ^ k → Top v j → j < k
top_below {v} {j} k h t =
    either (ltb j k) (λ y. ltb-true _ _ y)
    (λ n. let l : k ≤ j = ltb-false _ _ n in let p : 2 ^ k ≤ 2 ^ j = pow_mono l in absurd (omega (arith, t.least)))

-- the digits of a number and of what is left without its highest one differ there only
module _ (k v j : ℕ) (l : v < 2 ^ k) (t : Top v j) where
  abbrev left : ℕ
  left = v - 2 ^ j

  below : left < 2 ^ j
  below = omega (arith, t.least, t.below, pow-suc 2 j)

  all : v ≡ 1 * 2 ^ j + left
  all = omega (arith, t.least)

  digits-at : (x : ℕ) → x < 2 ^ suc j → digits k x ≡ replicate (k - 1 - j) 0 ++ (x / 2 ^ j % 2 ∷ digits j x)
  unfolding digits
  digits-at x h =
      let i : j < k = top_below k l t in
      let e : k ≡ k - 1 - j + suc j = omega arith in
      ap (λ (n : ℕ). digits n x) e ∙ digits_append (k - 1 - j) (suc j) x
      ∙ (rw (div-eq_of_lt h, digits-zero (k - 1 - j)))

  with-top : digits k v ≡ replicate (k - 1 - j) 0 ++ (1 ∷ digits j left)
  with-top =
      let d : v / 2 ^ j ≡ 1 = ap (λ (x : ℕ). x / 2 ^ j) all ∙ high 1 j below in
      let m : v % 2 ^ j ≡ left = ap (λ (x : ℕ). x % 2 ^ j) all ∙ low 1 j below in
      let tail : digits j v ≡ digits j left = sym (digits_mod j j v (omega arith)) ∙ ap (digits j) m in
      digits-at v t.below ∙ (rw (d, tail))

  without-top : digits k left ≡ replicate (k - 1 - j) 0 ++ (0 ∷ digits j left)
  without-top = digits-at left (omega (arith, below, pow-suc 2 j)) ∙ (rw (digit_low j left below))

-- no digit is one
pub along-none : (step x k : ℕ) → along step x (digits k 0) ≡ []
along-none step x k = rw (digits-zero k) (along-zeros step x k)

-- a one behind n zeros comes first, and then the others
along-first : (step x n : ℕ) (vs : List ℕ) → x < 65536
    → along step x (replicate n 0 ++ (1 ∷ vs)) ≡ (x + n * step) % 65536 ∷ along step x (replicate n 0 ++ (0 ∷ vs))
unfolding along
along-first step x zero vs h =
    let e : x + 0 * step ≡ x = omega arith in rw (e, mod-eq_of_lt h)
along-first step x (suc n) vs h =
    let e : x + suc n * step ≡ x + step + n * step = omega arith in
    rw (e, ← mod-add-mod (x + step) 65536 (n * step))
    (along-first step (onward step x) n vs (mod-lt (x + step) (lit< tt)))

-- the highest digit comes first; it is k - 1 - j places on
pub along-top : (step x k v j : ℕ) → x < 65536 → v < 2 ^ k → Top v j
    → along step x (digits k v) ≡ (x + (k - 1 - j) * step) % 65536 ∷ along step x (digits k (v - 2 ^ j))
along-top step x k v j h l t =
    rw (with-top k v j l t, without-top k v j l t) (along-first step x (k - 1 - j) (digits j (v - 2 ^ j)) h)

-- a choice turned round
cond-not : (b : Bool) (x y : ℕ) → cond (not b) x y ≡ cond b y x
cond-not true x y = refl
cond-not false x y = refl

module _ (start end t : ℕ) where
  -- no digit is one: no place fails
  pub stop-none : (q k : ℕ) → stop_from start end t q (digits k 0) ≡ q + k
  unfolding stop_from digits
  stop-none q zero = sym (add-zero q)
  stop-none q (suc k) =
      let e : suc q + k ≡ q + suc k = omega arith in rw (digit_low k 0 (pow_pos k)) (stop-none (suc q) k ∙ e)

  -- a one behind n zeros is tried first
  stop-first : (q n : ℕ) (vs : List ℕ)
      → stop_from start end t q (replicate n 0 ++ (1 ∷ vs))
      ≡ cond (passes start end (sequence_of (q + n) start t)) (stop_from start end t q (replicate n 0 ++ (0 ∷ vs)))
      (q + n)
  unfolding stop_from
  stop-first q zero vs =
      rw (add-zero q) (cond-not (passes start end (sequence_of q start t)) q (stop_from start end t (suc q) vs))
  stop-first q (suc n) vs = let e : q + suc n ≡ suc q + n = omega arith in rw e (stop-first (suc q) n vs)

  -- the highest digit is tried first
  pub stop-top : (q k v j : ℕ) → v < 2 ^ k → Top v j
      → stop_from start end t q (digits k v)
      ≡ cond (passes start end (sequence_of (q + (k - 1 - j)) start t)) (stop_from start end t q (digits k (v - 2 ^ j)))
      (q + (k - 1 - j))
  stop-top q k v j l p =
      rw (with-top k v j l p, without-top k v j l p) (stop-first q (k - 1 - j) (digits j (v - 2 ^ j)))
