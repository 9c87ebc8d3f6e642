-- The laws of the pattern.
--     length-pattern, pattern-next     how long it is; one item more
--     stands-listed                 whether it stands, item by item
--     stands-behind                 where the pattern was laid, it stands from any index on
use Prim.Native.Nat.{ℕ, zero, suc, ◌+◌, ◌-◌, ◌<◌}
use mathlib.Core.Path.{◌≡◌, refl, sym, ap, ◌∙◌}
use mathlib.Core.Bool.{Bool, true, false, cond, ◌&&◌}
use mathlib.Core.List.{List, [], ◌∷◌, ◌++◌}
use native.Mathlib.Numerals.{add-one}
use native.Mathlib.Omega.{arith}
use lib.ListN.{length, take, drop, set}
use lib.Seq.{take-suc-set}
use lib.Dec.{eqb}
use borrow.Author.Tests.{eq-eqb}
use Rattle.std.specs.List.{enumerate_from, list_all}
use Rattle.lent.specs.Pattern.{pattern, stands}

-- the items that are numbered from n on, from the k-th one on
drop_numbered : {A : Type 0} (k n : ℕ) (l : List A)
    → drop k (enumerate_from n l) ≡ enumerate_from (n + k) (drop k l)
drop_numbered zero n l = let a : n + 0 ≡ n = omega arith in rw a
drop_numbered (suc k) n [] = refl
drop_numbered (suc k) n (x ∷ l) =
    let a : n + suc k ≡ n + 1 + k = omega arith in
    rw a (drop_numbered k (n + 1) l)

tested : (t : Bool) {a b : Bool} → a ≡ b → (t && a) ≡ cond t b false
tested true e = e
tested false e = refl

module _ {A : Type 0} (same : A → A → Bool) (mark : ℕ → A) where
  stands_numbered : (i : ℕ) (l : List A) → list_all (λ p. same p.1 (mark p.0)) (enumerate_from i l) ≡ stands same mark i l
  unfolding stands
  stands_numbered i [] = refl
  stands_numbered i (x ∷ l) =
      tested (same x (mark i)) (stands_numbered (i + 1) l ∙ ap (λ (j : ℕ). stands same mark j l) (add-one i))

  pub stands-listed : (i : ℕ) (l : List A)
      → list_all (λ p. same p.1 (mark p.0)) (drop i (enumerate_from 0 l)) ≡ stands same mark i (drop i l)
  stands-listed i l =
      let z : 0 + i ≡ i = omega arith in
      ap (list_all (λ p. same p.1 (mark p.0))) (drop_numbered i 0 l ∙ ap (λ (j : ℕ). enumerate_from j (drop i l)) z)
      ∙ stands_numbered i (drop i l)

module _ {A : Type 0} (mark : ℕ → A) where
  pub length-pattern : (i n : ℕ) → length (pattern mark i n) ≡ n
  unfolding pattern
  length-pattern i zero = refl
  length-pattern i (suc n) = ap suc (length-pattern (suc i) n)

  pattern-last : (i n : ℕ) → pattern mark i (suc n) ≡ pattern mark i n ++ (mark (i + n) ∷ [])
  unfolding pattern
  pattern-last i zero = ap (λ (k : ℕ). mark k ∷ []) (omega arith)
  pattern-last i (suc n) =
      ap (λ (l : List A). mark i ∷ l)
      (pattern-last (suc i) n ∙ ap (λ (k : ℕ). pattern mark (suc i) n ++ (mark k ∷ [])) (omega arith))

  pub pattern-none : [] ≡ pattern mark 0 0
  unfolding pattern
  pattern-none = refl

  -- the front of a list holds the pattern, and one item more of it is stored
  pub pattern-next : (l : List A) (i : ℕ) (x : A) → i < length l → x ≡ mark i → take i l ≡ pattern mark 0 i
      → take (i + 1) (set l i x) ≡ pattern mark 0 (i + 1)
  pattern-next l i x h e t =
      let z : 0 + i ≡ i = omega arith in
      rw (add-one i) (take-suc-set l i x h ∙ (rw (t, e)) ∙ ap (λ (k : ℕ). pattern mark 0 i ++ (mark k ∷ [])) (sym z)
      ∙ sym (pattern-last 0 i))

  drop-pattern : (k i n : ℕ) → drop k (pattern mark i n) ≡ pattern mark (i + k) (n - k)
  unfolding pattern
  drop-pattern zero i n =
      let a : i + 0 ≡ i = omega arith in
      let b : n - 0 ≡ n = omega arith in
      rw (a, b)
  drop-pattern (suc k) i zero = let b : 0 - suc k ≡ 0 = omega arith in rw b
  drop-pattern (suc k) i (suc n) =
      let a : i + suc k ≡ suc i + k = omega arith in
      let b : suc n - suc k ≡ n - k = omega arith in
      rw (a, b) (drop-pattern k (suc i) n)

module _ (mark : ℕ → ℕ) where
  stands-pattern : (i n : ℕ) → stands eqb mark i (pattern mark i n) ≡ true
  unfolding stands pattern
  stands-pattern i zero = refl
  stands-pattern i (suc n) = rw (eq-eqb (mark i) (mark i) refl) (stands-pattern (suc i) n)

  pub stands-behind : (k n : ℕ) → stands eqb mark k (drop k (pattern mark 0 n)) ≡ true
  stands-behind k n =
      let z : 0 + k ≡ k = omega arith in
      ap (stands eqb mark k) (drop-pattern mark k 0 n ∙ ap (λ (j : ℕ). pattern mark j (n - k)) z) ∙ stands-pattern k (n - k)
