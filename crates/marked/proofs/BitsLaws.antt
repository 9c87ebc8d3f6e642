-- The laws of marks as bits: the one place that unfolds `bits_of`. Assumes nothing.
--     marks-drop               marks from a place on
--     bits-head                the first bit, and those behind it
--     bits-split               some bits, and those behind them
--     bits_below               k bits are below 2^k
use Prim.Native.Nat.{ℕ, zero, suc, ◌+◌, ◌*◌, ◌^◌, ◌<◌}
use mathlib.Core.Path.{◌≡◌, refl}
use mathlib.Core.List.{List, [], ◌∷◌}
use native.Mathlib.Nat.{add-mul, mul_assoc}
use native.Mathlib.Omega.{arith}
use lib.ListN.{get_or, drop}
use lib.Seq.{get_or-drop}
use lib.Pow.{pow_pos, pow-add}
use Rattle.def_marks.specs.Marks.{bits_of}
use Rattle.marked.specs.Marked.{Marks}

-- marks from a place on are marks
pub marks-drop : (t : ℕ) (ms : List ℕ) → Marks ms → Marks (drop t ms)
marks-drop t ms marks i = rw (get_or-drop t ms i 0) (marks (t + i))

pub bits_none : (k : ℕ) → bits_of k [] ≡ 0
unfolding bits_of
bits_none zero = refl
bits_none (suc k) = refl

pub bits-zero : (l : List ℕ) → bits_of 0 l ≡ 0
unfolding bits_of
bits-zero l = refl

pub bits-head : (k : ℕ) (l : List ℕ) → bits_of (suc k) l ≡ get_or l 0 0 * 2 ^ k + bits_of k (drop 1 l)
unfolding bits_of
bits-head k [] = rw (bits_none k) (omega arith)
bits-head k (m ∷ l) = refl

pub bits-split : (j k : ℕ) (l : List ℕ) → bits_of (j + k) l ≡ bits_of j l * 2 ^ k + bits_of k (drop j l)
unfolding bits_of
bits-split zero k l = let z : 0 + k ≡ k = omega arith in rw z (omega arith)
bits-split (suc j) k [] = rw (bits_none (suc j + k), bits_none k) (omega arith)
bits-split (suc j) k (m ∷ l) =
    let z : suc j + k ≡ suc (j + k) = omega arith in
    rw (z, pow-add 2 j k, bits-split j k l, add-mul (m * 2 ^ j) (bits_of j l) (2 ^ k), mul_assoc m (2 ^ j) (2 ^ k))
    (omega arith)

pub bits_below : (k : ℕ) (l : List ℕ) → Marks l → bits_of k l < 2 ^ k
unfolding bits_of
bits_below zero l h = omega arith
bits_below (suc k) [] h = pow_pos (suc k)
bits_below (suc k) (zero ∷ l) h = omega (arith, bits_below k l (λ i. h (suc i)))
bits_below (suc k) (suc zero ∷ l) h = omega (arith, bits_below k l (λ i. h (suc i)))
bits_below (suc k) (suc (suc m) ∷ l) h = absurd (omega (arith, h 0))
