-- The laws of a chunk word (def_standard's Chunks): the one place that unfolds `values_in`, `chunk_of` and `word_of`.
-- Assumes nothing.
--     covers-*, value-*       how many positions a word covers, and the value at a place, by its kind
--     values-*                the values at its places, in order
--     chunk-*, word-*         its kind, and the word of a kind
use Rattle.std.specs.Prelude.{Ok, Err}
use Prim.Native.Nat.{ℕ, zero, suc, ◌+◌, ◌-◌, ◌/◌, ◌%◌, ◌^◌, ◌≤◌, ◌<◌, min}
use mathlib.Core.Path.{◌≡◌, refl, ap, ◌∙◌}
use mathlib.Core.List.{List, [], ◌∷◌, ◌++◌, map}
use native.Mathlib.Nat.{add-zero}
use native.Mathlib.Omega.{arith}
use lib.ListN.{length, get_or, take, replicate, length-map}
use lib.Dec.{ltb}
use borrow.Author.Tests.{lt-ltb, le-ltb, le-leb, lt-leb, eq-eqb, ne_eqb}
use Rattle.laws.proofs.Tests.{both}
use Rattle.def_refusals.specs.declared.Refusal.TheVariants.{ValueTooLarge}
use Rattle.def_standard.specs.declared.Chunk.TheVariants.{Null, Skip, Run, Vector}
use Rattle.def_standard.specs.Chunks.{covers_of, value_of, count_from, values_in, chunk_of, within, word_of}

-- ---- by its kind

module _ (w : ℕ) where
  pub covers-run : w < 32768 → covers_of w ≡ w % 16384
  covers-run h = rw (lt-ltb w 32768 h)

  pub covers-vector : 32768 ≤ w → covers_of w ≡ 15
  covers-vector h = rw (le-ltb w 32768 h)

  pub covers-lt : covers_of w ≤ 16383
  covers-lt = both (λ (n : ℕ). n ≤ 16383) (ltb w 32768) (λ _. omega arith) (λ _. omega arith)

  pub value-run : (q : ℕ) → w < 32768 → value_of w q ≡ w / 16384 % 2
  value-run q h = rw (lt-ltb w 32768 h)

  pub value-vector : (q : ℕ) → 32768 ≤ w → value_of w q ≡ w / 2 ^ (14 - q) % 2
  value-vector q h = rw (le-ltb w 32768 h)

-- ---- numbers in a row, and what a function gives of them

pub length-count_from : (q n : ℕ) → length (count_from q n) ≡ n
length-count_from q zero = refl
length-count_from q (suc n) = ap suc (length-count_from (suc q) n)

map_same : (f g : ℕ → ℕ) → ((x : ℕ) → f x ≡ g x) → (l : List ℕ) → map f l ≡ map g l
map_same f g h [] = refl
map_same f g h (x ∷ l) = rw (h x, map_same f g h l)

module _ (f : ℕ → ℕ) where
  get_or-counted : (q n i : ℕ) → i < n → get_or (map f (count_from q n)) i 0 ≡ f (q + i)
  get_or-counted q zero i h = absurd (omega arith)
  get_or-counted q (suc n) zero h = rw (add-zero q)
  get_or-counted q (suc n) (suc i) h =
      let e : q + suc i ≡ suc q + i = omega arith in rw e (get_or-counted (suc q) n i (omega arith))

  take_counted : (r q n : ℕ) → take r (map f (count_from q n)) ≡ map f (count_from q (min r n))
  take_counted zero q n = let e : min 0 n ≡ 0 = omega arith in rw e
  take_counted (suc r) q zero = let e : min (suc r) 0 ≡ 0 = omega arith in rw e
  take_counted (suc r) q (suc n) =
      let e : min (suc r) (suc n) ≡ suc (min r n) = omega arith in
      rw e (ap (λ (l : List ℕ). f q ∷ l) (take_counted r (suc q) n))

  same-counted : (v q n : ℕ) → ((i : ℕ) → f i ≡ v) → map f (count_from q n) ≡ replicate n v
  same-counted v q zero h = refl
  same-counted v q (suc n) h = rw (h q, same-counted v (suc q) n h)

  pub counted-snoc : (q n : ℕ) → map f (count_from q (suc n)) ≡ map f (count_from q n) ++ (f (q + n) ∷ [])
  counted-snoc q zero = rw (add-zero q)
  counted-snoc q (suc n) =
      let e : q + suc n ≡ suc q + n = omega arith in rw e (ap (λ (l : List ℕ). f q ∷ l) (counted-snoc (suc q) n))

-- ---- a word's values

module _ (w : ℕ) where
  pub length-values_in : length (values_in w) ≡ covers_of w
  unfolding values_in
  length-values_in = length-map (count_from 0 (covers_of w)) (value_of w) ∙ length-count_from 0 (covers_of w)

  -- a run has one value
  pub values-run : w < 32768 → values_in w ≡ replicate (w % 16384) (w / 16384 % 2)
  unfolding values_in
  values-run h = rw (covers-run w h) (same-counted (value_of w) (w / 16384 % 2) 0 (w % 16384) (λ i. value-run w i h))

  pub values-at : (q : ℕ) → q < covers_of w → get_or (values_in w) q 0 ≡ value_of w q
  unfolding values_in
  values-at q h = get_or-counted (value_of w) 0 (covers_of w) q h ∙ ap (value_of w) (omega arith)

  -- the first places
  pub values-take : (r : ℕ) → take r (values_in w) ≡ map (value_of w) (count_from 0 (min r (covers_of w)))
  unfolding values_in
  values-take r = take_counted (value_of w) r 0 (covers_of w)

  pub values-take-run : (r : ℕ) → w < 32768 → take r (values_in w) ≡ replicate (min r (w % 16384)) (w / 16384 % 2)
  values-take-run r h =
      values-take r
      ∙ (rw (covers-run w h) (same-counted (value_of w) (w / 16384 % 2) 0 (min r (w % 16384)) (λ i. value-run w i h)))

  pub values-take-vector : (r : ℕ) → 32768 ≤ w
      → take r (values_in w) ≡ map (λ (q : ℕ). w / 2 ^ (14 - q) % 2) (count_from 0 (min r 15))
  values-take-vector r h =
      let same = map_same (value_of w) (λ (q : ℕ). w / 2 ^ (14 - q) % 2) (λ q. value-vector w q h) in
      values-take r ∙ (rw (covers-vector w h) (same (count_from 0 (min r 15))))

-- ---- a word's kind

module _ (w : ℕ) where
  pub chunk-null : w ≡ 0 → chunk_of w ≡ Null
  unfolding chunk_of
  chunk-null e = rw e

  pub chunk-skip : (w ≡ 0 → ⊥) → w < 16384 → chunk_of w ≡ Skip (w % 16384)
  unfolding chunk_of
  chunk-skip n h = let e : w % 16384 ≡ w = omega arith in rw (ne_eqb w 0 n, lt-ltb w 16384 h, e)

  pub chunk-run : 16384 ≤ w → w < 32768 → chunk_of w ≡ Run (w % 16384)
  unfolding chunk_of
  chunk-run a h =
      let n : w ≡ 0 → ⊥ = λ (z : w ≡ 0). omega arith in
      let e : w % 16384 ≡ w - 16384 = omega arith in
      rw (ne_eqb w 0 n, le-ltb w 16384 a, lt-ltb w 32768 h, e)

  pub chunk-vector : 32768 ≤ w → w < 65536 → chunk_of w ≡ Vector (w % 32768)
  unfolding chunk_of
  chunk-vector a h =
      let n : w ≡ 0 → ⊥ = λ (z : w ≡ 0). omega arith in
      let b : 16384 ≤ w = omega arith in
      let e : w % 32768 ≡ w - 32768 = omega arith in
      rw (ne_eqb w 0 n, le-ltb w 16384 b, le-ltb w 32768 a, e)

-- ---- the word of a kind

within-fits : (v limit w : ℕ) → v ≤ limit → within v limit w ≡ Ok w
within-fits v limit w h = rw (le-leb v limit h)

within-over : (v limit w : ℕ) → limit < v → within v limit w ≡ Err (ValueTooLarge v)
within-over v limit w h = rw (lt-leb v limit h)

module _ (v : ℕ) where
  pub word-skip : v ≤ 16383 → word_of (Skip v) ≡ Ok v
  unfolding word_of
  word-skip = within-fits v 16383 v

  pub word-run-none : v ≡ 0 → word_of (Run v) ≡ Err (ValueTooLarge 0)
  unfolding word_of
  word-run-none e = rw (eq-eqb v 0 e)

  pub word-run : (v ≡ 0 → ⊥) → v ≤ 16383 → word_of (Run v) ≡ Ok (16384 + v)
  unfolding word_of
  word-run n h = rw (ne_eqb v 0 n) (within-fits v 16383 (16384 + v) h)

  pub word-vector : v ≤ 32767 → word_of (Vector v) ≡ Ok (32768 + v)
  unfolding word_of
  word-vector = within-fits v 32767 (32768 + v)

  -- 13
  pub word-skip-over : 16383 < v → word_of (Skip v) ≡ Err (ValueTooLarge v)
  unfolding word_of
  word-skip-over = within-over v 16383 v

  pub word-run-over : 16383 < v → word_of (Run v) ≡ Err (ValueTooLarge v)
  unfolding word_of
  word-run-over h =
      let n : v ≡ 0 → ⊥ = λ (e : v ≡ 0). absurd (omega arith) in
      rw (ne_eqb v 0 n) (within-over v 16383 (16384 + v) h)

  pub word-vector-over : 32767 < v → word_of (Vector v) ≡ Err (ValueTooLarge v)
  unfolding word_of
  word-vector-over = within-over v 32767 (32768 + v)

pub word-null : word_of Null ≡ Ok 0
unfolding word_of
word-null = refl
