-- Counts of the places of value one among a word's first places: the one place that unfolds `ones_before`. Assumes
-- nothing.
use Prim.Native.Nat.{ℕ, zero, suc, ◌+◌, ◌-◌, ◌/◌, ◌%◌, ◌^◌, ◌≤◌, ◌<◌, min}
use mathlib.Core.Path.{◌≡◌, refl, sym, ap, ◌∙◌}
use mathlib.Core.Bool.{Bool, true, false, cond}
use mathlib.Core.List.{List, [], ◌∷◌, ◌++◌, map}
use native.Mathlib.Omega.{arith}
use lib.ListN.{length, replicate}
use lib.Dec.{eqb}
use lib.Pow.{field, mod-mod-pow, shr-shr, shr_le}
use lib.Count.{ones, ones_step, ones-le}
use Rattle.def_standard.specs.Chunks.{count_from}
use Rattle.def_standard.specs.Listing.{list_from}
use Rattle.chunk.specs.Ones.{ones_before}
use Rattle.chunk.proofs.ChunkLaws.{counted-snoc, values-take-run, values-take-vector}

-- how many of a list of values are one; where their places begin does not matter
abbrev ones_from : ℕ → List ℕ → List ℕ
ones_from p vs = list_from (λ q value. eqb value 1) (λ q value. q) p vs

abbrev ones_of : ℕ → List ℕ → ℕ
ones_of p vs = length (ones_from p vs)

ones_of-cons : (p v : ℕ) (vs : List ℕ) → ones_of p (v ∷ vs) ≡ cond (eqb v 1) 1 0 + ones_of (suc p) vs
ones_of-cons p v vs = go (eqb v 1)
  where
    go : (b : Bool) → length (cond b (p ∷ ones_from (suc p) vs) (ones_from (suc p) vs)) ≡ cond b 1 0 + ones_of (suc p) vs
    go true = omega arith
    go false = omega arith

ones_of-snoc : (p : ℕ) (vs : List ℕ) (v : ℕ) → v ≤ 1 → ones_of p (vs ++ (v ∷ [])) ≡ ones_of p vs + v
ones_of-snoc p [] zero h = refl
ones_of-snoc p [] (suc zero) h = refl
ones_of-snoc p [] (suc (suc v)) h = absurd (omega arith)
ones_of-snoc p (x ∷ vs) v h =
    omega (arith, ones_of-cons p x (vs ++ (v ∷ [])), ones_of-cons p x vs, ones_of-snoc (suc p) vs v h)

ones_of-zeros : (p n : ℕ) → ones_of p (replicate n 0) ≡ 0
ones_of-zeros p zero = refl
ones_of-zeros p (suc n) = ones_of-zeros (suc p) n

ones_of-ones : (p n : ℕ) → ones_of p (replicate n 1) ≡ n
ones_of-ones p zero = refl
ones_of-ones p (suc n) = ap suc (ones_of-ones (suc p) n)

-- the first k bits of a vector are what is left of it when the others are shifted out
abbrev first_bits : ℕ → ℕ → ℕ
first_bits w k = w % 32768 / 2 ^ (15 - k)

first_bits-last : (w k : ℕ) → k < 15 → first_bits w (suc k) % 2 ≡ w / 2 ^ (14 - k) % 2
first_bits-last w k h =
    let e : 15 - suc k ≡ 14 - k = omega arith in
    let s : 15 ≡ suc k + (14 - k) = omega arith in
    let m : suc k ≡ k + 1 = omega arith in
    ap (λ (n : ℕ). w % 2 ^ n / 2 ^ (15 - suc k) % 2) s
    ∙ (rw (e, field w (suc k) (14 - k), m) (mod-mod-pow (w / 2 ^ (14 - k)) k 1))

first_bits-rest : (w k : ℕ) → k < 15 → first_bits w (suc k) / 2 ≡ first_bits w k
first_bits-rest w k h =
    let e : 15 - k ≡ 15 - suc k + 1 = omega arith in rw e (shr-shr (w % 32768) (15 - suc k) 1)

ones_none : ones 0 ≡ 0
unfolding ones
ones_none = refl

ones_of-vector : (w k : ℕ) → k ≤ 15
    → ones_of 0 (map (λ (q : ℕ). w / 2 ^ (14 - q) % 2) (count_from 0 k)) ≡ ones (first_bits w k)
ones_of-vector w zero h = let e : w % 32768 / 32768 ≡ 0 = omega arith in sym (ap ones e ∙ ones_none)
ones_of-vector w (suc k) h =
    let f : ℕ → ℕ = λ (q : ℕ). w / 2 ^ (14 - q) % 2 in
    let z : 0 + k ≡ k = omega arith in
    let rest = ap ones (first_bits-rest w k (omega arith)) in
    let last = first_bits-last w k (omega arith) in
    ap (ones_of 0) (counted-snoc f 0 k)
    ∙ ones_of-snoc 0 (map f (count_from 0 k)) (f (0 + k)) (omega arith)
    ∙ omega (arith, ones_of-vector w k (omega arith), ones_step (first_bits w (suc k)), rest, last, ap f z)

-- ---- a word's first places

module _ (w room : ℕ) where
  pub ones_before-skip : w < 16384 → length (ones_before w room) ≡ 0
  unfolding ones_before
  ones_before-skip h =
      let z : w / 16384 % 2 ≡ 0 = omega arith in
      ap (ones_of 0) (values-take-run w room (omega arith)) ∙ (rw z (ones_of-zeros 0 (min room (w % 16384))))

  pub ones_before-run : 16384 ≤ w → w < 32768 → length (ones_before w room) ≡ min room (w % 16384)
  unfolding ones_before
  ones_before-run a h =
      let z : w / 16384 % 2 ≡ 1 = omega arith in
      ap (ones_of 0) (values-take-run w room h) ∙ (rw z (ones_of-ones 0 (min room (w % 16384))))

  pub ones_before-vector : 32768 ≤ w → length (ones_before w room) ≡ ones (w % 32768 / 2 ^ (15 - min room 15))
  unfolding ones_before
  ones_before-vector h = ap (ones_of 0) (values-take-vector w room h) ∙ ones_of-vector w (min room 15) (omega arith)

-- a part of 15 bits has at most 15 ones
pub ones-few : (v k : ℕ) → v < 32768 → ones (v / 2 ^ k) ≤ 15
ones-few v k h = ones-le 15 (v / 2 ^ k) (omega (arith, shr_le v k))
