-- Small laws of lists. Assumes nothing.
--     Each, each_at, each-drop   a property of all elements, of one of them, and of those from one on
--     Under, under-take, ..      numbers below a bound (`Bytes` is `Under 256`), also in a part
--     last-behind                the last byte of a list with a front before it
use Prim.Native.Nat.{ℕ, zero, suc, ◌+◌, ◌-◌, ◌<◌}
use mathlib.Core.Path.{◌≡◌}
use mathlib.Core.List.{List, [], ◌∷◌, ◌++◌}
use native.Mathlib.Omega.{arith}
use lib.ListN.{length, get_or, take, drop, length-append}
use lib.Seq.{get_or-drop, get_or-append-add}

abbrev pub Each : {A : Type 0} → (A → Type 0) → List A → Type 0
Each P [] = Unit {0}
Each P (x ∷ xs) = P x × Each P xs

pub each_at : {A : Type 0} (P : A → Type 0) (d : A) (xs : List A) (k : ℕ) → Each P xs → k < length xs
    → P (get_or xs k d)
each_at P d [] k e h = absurd (omega arith)
each_at P d (x ∷ xs) zero e h = e.0
each_at P d (x ∷ xs) (suc k) e h = each_at P d xs k e.1 (omega arith)

pub each-drop : {A : Type 0} (P : A → Type 0) (k : ℕ) (xs : List A) → Each P xs → Each P (drop k xs)
each-drop P zero xs e = e
each-drop P (suc k) [] e = tt
each-drop P (suc k) (x ∷ xs) e = each-drop P k xs e.1

-- numbers below a bound
abbrev pub Under : ℕ → List ℕ → Type 0
Under b s = (i : ℕ) → get_or s i 0 < b

pub under-take : (b n : ℕ) (s : List ℕ) → 0 < b → Under b s → Under b (take n s)
under-take b zero s p h i = p
under-take b (suc n) [] p h i = p
under-take b (suc n) (x ∷ s) p h zero = h 0
under-take b (suc n) (x ∷ s) p h (suc i) = under-take b n s p (λ k. h (suc k)) i

pub under_drop : (b n : ℕ) (s : List ℕ) → Under b s → Under b (drop n s)
under_drop b n s h i = rw (get_or-drop n s i 0) (h (n + i))

-- the last byte
abbrev pub last_of : List ℕ → ℕ
last_of s = get_or s (length s - 1) 0

pub last-behind : (a s : List ℕ) → 0 < length s → last_of (a ++ s) ≡ last_of s
last-behind a s h =
    let e : length (a ++ s) - 1 ≡ length a + (length s - 1) = omega (arith, length-append a s) in
    rw e (get_or-append-add a s (length s - 1) 0)
