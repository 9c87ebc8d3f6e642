-- The laws of runs of stores, one after the other.
use Prim.Native.Nat.{ℕ, suc, ◌+◌, ◌≤◌}
use mathlib.Core.Path.{◌≡◌, refl, sym, ap, ◌∙◌}
use mathlib.Core.List.{List, [], ◌∷◌, ◌++◌}
use native.Mathlib.Nat.{add-zero}
use native.Mathlib.Omega.{arith}
use lib.ListN.{length, set, length-append}
use lib.Seq.{sets, length-sets, sets-eq}
use Rattle.laws.specs.Stores.{Wrote, Filled}

-- a run of stores, and one that goes on where it ended, are one run
pub sets-append : {A : Type 0} (a b l : List A) (i j : ℕ) → j ≡ i + length a
    → sets (sets l i a) j b ≡ sets l i (a ++ b)
sets-append [] b l i j e = ap (λ (k : ℕ). sets l k b) (e ∙ add-zero i)
sets-append (x ∷ a) b l i j e = sets-append a b (set l i x) (suc i) j (omega arith)

-- nothing was stored
pub none : {l : List ℕ} {i : ℕ} → Wrote l i [] l i
none {l} {i} = record { stored = refl; past = sym (add-zero i) }

pub and_then : {l m n : List ℕ} {i j k : ℕ} {a b : List ℕ} → Wrote l i a m j → Wrote m j b n k → Wrote l i (a ++ b) n k
and_then {l} {m} {n} {i} {j} {k} {a} {b} p q =
    record {
      stored = q.stored ∙ (rw p.stored (sets-append a b l i j p.past));
      past = rw (length-append a b) (omega (arith, p.past, q.past));
    }

-- the length is as it was
pub same : {l m : List ℕ} {i j : ℕ} {a : List ℕ} → Wrote l i a m j → length m ≡ length l
same {l} {m} {i} {j} {a} p = ap length p.stored ∙ length-sets l i a

-- from the front on
pub filled : {l m a : List ℕ} {j : ℕ} → length a ≤ length l → Wrote l 0 a m j → Filled a l j m
filled {l} {m} {a} h p =
    let z : 0 + length a ≡ length a = omega arith in
    (p.past ∙ z, p.stored ∙ sets-eq a l 0 (rw z h) ∙ (rw z))
