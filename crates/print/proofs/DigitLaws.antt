-- The laws of decimal digits.
--     decimal-digits     a number's digits are its last k, where k is the fewest that hold it
--     places-of          how many digits a number has
--     set_last, Spelling     digits stored from the last one on
use Prim.Native.Nat.{ℕ, zero, suc, ◌+◌, ◌*◌, ◌-◌, ◌/◌, ◌%◌, ◌^◌, ◌≤◌, ◌<◌, max}
use mathlib.Core.Path.{◌≡◌, refl, sym, ap, ◌∙◌}
use mathlib.Core.Bool.{Bool, cond}
use mathlib.Core.List.{List, [], ◌∷◌, ◌++◌}
use native.Mathlib.Nat.{add-zero, pow-suc, pow-le-pow_right, mod-eq_of_lt}
use native.Mathlib.Numerals.{add-one}
use native.Mathlib.Omega.{arith}
use lib.ListN.{length, set, length-append, length-set}
use lib.Seq.{sets, set_comm}
use lib.Dec.{leb}
use borrow.Author.Tests.{lt-ltb, le-ltb, leb-true, leb-false}
use Rattle.laws.proofs.Tests.{either}
use Rattle.laws.specs.Stores.{Wrote}
use Rattle.io.specs.Digits.{last_digits, IsDigitCount}
use Rattle.def_text.specs.Numerals.{glyph, decimal_within}

pub length_digits : (k n : ℕ) → length (last_digits 10 k n) ≡ k
length_digits zero n = refl
length_digits (suc k) n =
    let e : length (last_digits 10 k (n / 10)) ≡ k = length_digits k (n / 10) in
    length-append (last_digits 10 k (n / 10)) (glyph (n % 10) ∷ []) ∙ omega arith

below : (j n : ℕ) → IsDigitCount 10 1 n (suc (suc j)) → 10 ^ suc j ≤ n
below j n w = let e : suc (suc j) - 1 ≡ suc j = omega arith in rw e at (w.2 (omega arith))

-- the tenth part has one digit less
fewer : (j n : ℕ) → IsDigitCount 10 1 n (suc (suc j)) → IsDigitCount 10 1 (n / 10) (suc j)
fewer j n w =
    let a : n < 10 ^ suc j * 10 = rw (pow-suc 10 (suc j)) at w.1 in
    let e : 10 ^ suc j ≡ 10 ^ j * 10 = pow-suc 10 j in
    let b : 10 ^ suc j ≤ n = below j n w in
    let c : suc j - 1 ≡ j = omega arith in
    (omega arith, omega arith, λ _. rw c (omega arith))

pub decimal-digits : (f k n : ℕ) → k ≤ suc f → IsDigitCount 10 1 n k → decimal_within f n ≡ last_digits 10 k n
unfolding decimal_within
decimal-digits f zero n h w = absurd (let z : 1 ≤ 0 = w.0 in omega arith)
decimal-digits zero (suc zero) n h w = ap (λ (d : ℕ). glyph d ∷ []) (sym (mod-eq_of_lt w.1))
decimal-digits zero (suc (suc k)) n h w = absurd (omega arith)
decimal-digits (suc f) (suc zero) n h w =
    ap (λ (b : Bool). cond b (glyph n ∷ []) (decimal_within f (n / 10) ++ (glyph (n % 10) ∷ []))) (lt-ltb n 10 w.1)
    ∙ ap (λ (d : ℕ). glyph d ∷ []) (sym (mod-eq_of_lt w.1))
decimal-digits (suc f) (suc (suc k)) n h w =
    let p : 10 ^ 1 ≤ 10 ^ suc k = pow-le-pow_right (omega arith) {i = 1} {j = suc k} (omega arith) in
    let q : 10 ^ suc k ≤ n = below k n w in
    let t : 10 ≤ n = omega arith in
    rw (le-ltb n 10 t)
    (ap (λ (l : List ℕ). l ++ (glyph (n % 10) ∷ [])) (decimal-digits f (suc k) (n / 10) (omega arith) (fewer k n w)))

-- a number of 64 bits has at most 20 digits
pub at-most-20 : (n k : ℕ) → n < 18446744073709551616 → IsDigitCount 10 1 n k → k ≤ 20
at-most-20 n k f w =
    either (leb k 20) (λ t. leb-true _ _ t)
    (λ t.
    let h : 21 ≤ k = leb-false _ _ t in
    let q : 10 ^ 20 ≤ 10 ^ (k - 1) = pow-le-pow_right (omega arith) {i = 20} {j = k - 1} (omega arith) in
    let b : 10 ^ (k - 1) ≤ n = w.2 (omega arith) in
    absurd (omega arith))

-- one more stored behind a run of stores, before that run
pub set_last : (a l : List ℕ) (i j x : ℕ) → j ≡ i + length a → sets (set l j x) i a ≡ sets l i (a ++ (x ∷ []))
set_last [] l i j x e = ap (λ (k : ℕ). set l k x) (e ∙ add-zero i)
set_last (y ∷ a) l i j x e =
    ap (λ (m : List ℕ). sets m (suc i) a) (set_comm l j i x y (λ d. omega arith))
    ∙ set_last a (set l i y) (suc i) j x (omega arith)

-- a number from the k-th power of ten on and below the next has k + 1 digits; and 0 has as many as 1
pub places-of : (n m k : ℕ) → m ≡ max n 1 → 10 ^ k ≤ m → m < 10 * 10 ^ k → k < 20
    → IsDigitCount 10 1 n (k + 1) × (k + 1 ≤ 20)
places-of n m zero e p q h = ((omega arith, omega arith, λ l. absurd (omega arith)), omega arith)
places-of n m (suc k) e p q h =
    let a : suc k + 1 - 1 ≡ suc k = omega arith in
    let b : 10 ^ (suc k + 1) ≡ 10 ^ suc k * 10 = rw add-one (pow-suc 10 (suc k)) in
    let d : 10 ^ 1 ≤ 10 ^ suc k = pow-le-pow_right (omega arith) {i = 1} {j = suc k} (omega arith) in
    ((omega arith, omega (arith, b), λ _. rw a (omega arith)), omega arith)

-- the last digits are stored, and i are left, those of `rest`
pub record Spelling (l₀ : List ℕ) (at k n : ℕ) (l : List ℕ) (i rest : ℕ) : Type 0 where
  pub stored : sets l at (last_digits 10 i rest) ≡ sets l₀ at (last_digits 10 k n)
  pub same : length l ≡ length l₀

module _ {l₀ : List ℕ} {at k n : ℕ} {l : List ℕ} {i rest : ℕ} (s : Spelling l₀ at k n l i rest) where
  pub spelling : (g : ℕ) → 0 < i → g ≡ glyph (rest % 10)
      → Spelling l₀ at k n (set l (at + (i - 1)) g) (i - 1) (rest / 10)
  spelling g h e =
      let j : suc (i - 1) ≡ i = omega arith in
      let m : length (last_digits 10 (i - 1) (rest / 10)) ≡ i - 1 = length_digits (i - 1) (rest / 10) in
      record {
        stored =
            set_last (last_digits 10 (i - 1) (rest / 10)) l at (at + (i - 1)) g (omega arith)
            ∙ ap (λ (x : ℕ). sets l at (last_digits 10 (i - 1) (rest / 10) ++ (x ∷ []))) e
            ∙ ap (λ (x : ℕ). sets l at (last_digits 10 x rest)) j ∙ s.stored;
        same = length-set l (at + (i - 1)) g ∙ s.same;
      }

  pub spelt : i ≤ 0 → Wrote l₀ at (last_digits 10 k n) l (at + k)
  spelt h =
      let z : 0 ≡ i = omega arith in
      record {
        stored = ap (λ (x : ℕ). sets l at (last_digits 10 x rest)) z ∙ s.stored;
        past = ap (λ (x : ℕ). at + x) (sym (length_digits k n));
      }
