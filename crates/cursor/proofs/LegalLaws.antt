-- Legal cursors, and one step from each: the one place that unfolds `legal`, `step_of` and `listed_at`. Assumes nothing.
use Prim.Native.Nat.{ℕ, ◌+◌, ◌≤◌, ◌<◌}
use mathlib.Core.Path.{◌≡◌, refl}
use mathlib.Core.Bool.{true, false, cond}
use mathlib.Core.List.{List, [], ◌∷◌}
use native.Mathlib.Omega.{arith}
use lib.ListN.{length, get_or}
use lib.Dec.{ltb, eqb}
use borrow.Author.Tests.{le-ltb, lt-ltb, eq-eqb, ne_eqb, ltb-true, ltb-false, eqb-true, eqb-false}
use Rattle.laws.proofs.Tests.{by-test, both, either, true≢false}
use Rattle.def_standard.specs.declared.Range.{Range}
use Rattle.def_standard.specs.Chunks.{covers_of, value_of}
use Rattle.def_standard.specs.Range.{circle, number_of}
use Rattle.def_standard.specs.Standard.{is_listed}
use Rattle.chunk.proofs.ChunkLaws.{covers-lt}
use Rattle.def_cursor.specs.declared.Cursor.{Cursor}
use Rattle.def_cursor.specs.Cursor.{cursor, start, steps_in, word_at, legal, next_position, step_of, listed_at}

-- a word that covers any takes a step for each place; one that covers none takes one
pub steps-some : (w : ℕ) → 0 < covers_of w → steps_in w ≡ covers_of w
steps-some w h = let n : covers_of w ≡ 0 → ⊥ = λ (z : covers_of w ≡ 0). omega arith in rw (ne_eqb _ _ n)

pub steps-none : (w : ℕ) → covers_of w ≡ 0 → steps_in w ≡ 1
steps-none w e = rw (eq-eqb _ _ e)

pub steps_pos : (w : ℕ) → 0 < steps_in w
steps_pos w = either (eqb (covers_of w) 0) (λ t. omega (arith, steps-none w (eqb-true _ _ t)))
    (λ f. let n : covers_of w ≡ 0 → ⊥ = eqb-false _ _ f in let h : 0 < covers_of w = omega arith in
    omega (arith, steps-some w h))

pub steps-le : (w : ℕ) → steps_in w ≤ 16383
steps-le w = both (λ (n : ℕ). n ≤ 16383) (eqb (covers_of w) 0) (λ _. omega arith) (λ _. covers-lt w)

-- ---- what is legal

module _ (ws : List ℕ) (c : Cursor) where
  pub legal-position : legal ws c ≡ true → c.position ≤ circle
  unfolding legal
  legal-position = by-test (ltb circle c.position) (λ _ e. true≢false e) (λ f _. ltb-false _ _ f)

  pub legal-place : legal ws c ≡ true → c.word < length ws → c.place < steps_in (word_at ws c)
  unfolding legal
  legal-place e h = by-test (ltb circle c.position) (λ _ z. true≢false z)
      (λ _ z. ltb-true _ _ (simp (lt-ltb _ _ h) at z)) e

  -- a place of a word is legal
  pub legal-in : c.position ≤ circle → c.word < length ws → c.place < steps_in (word_at ws c) → legal ws c ≡ true
  unfolding legal
  legal-in p h q = rw (le-ltb circle c.position p, lt-ltb _ _ h) (lt-ltb _ _ q)

  -- and so is the end
  pub legal-end : c.position ≤ circle → c.word ≡ length ws → c.place ≡ 0 → legal ws c ≡ true
  unfolding legal
  legal-end p e z =
      let n : length ws ≤ c.word = omega arith in
      rw (le-ltb circle c.position p, le-ltb _ _ n, eq-eqb _ _ e) (eq-eqb _ _ z)

  -- ---- the tests of a cursor, as a call makes them
  pub illegal-position : circle < c.position → legal ws c ≡ false
  unfolding legal
  illegal-position p = rw (lt-ltb circle c.position p)

  pub legal-at-word : c.position ≤ circle → c.word < length ws → legal ws c ≡ ltb c.place (steps_in (word_at ws c))
  unfolding legal
  legal-at-word p h = rw (le-ltb circle c.position p, lt-ltb _ _ h)

  pub legal-at-end : c.position ≤ circle → c.word ≡ length ws → legal ws c ≡ eqb c.place 0
  unfolding legal
  legal-at-end p e = let n : length ws ≤ c.word = omega arith in
      rw (le-ltb circle c.position p, le-ltb _ _ n, eq-eqb _ _ e)

  pub illegal-word : c.position ≤ circle → length ws < c.word → legal ws c ≡ false
  unfolding legal
  illegal-word p h =
      let n : length ws ≤ c.word = omega arith in
      let d : c.word ≡ length ws → ⊥ = λ (e : c.word ≡ length ws). omega arith in
      rw (le-ltb circle c.position p, le-ltb _ _ n, ne_eqb _ _ d)

-- the start of the next word, or the end
pub legal-next : (ws : List ℕ) (i p : ℕ) → p ≤ circle → i < length ws → legal ws (cursor (i + 1) 0 p) ≡ true
legal-next ws i p h k =
    either (ltb (i + 1) (length ws))
    (λ t. legal-in ws (cursor (i + 1) 0 p) h (ltb-true _ _ t) (steps_pos (get_or ws (i + 1) 0)))
    (λ f. let n : length ws ≤ i + 1 = ltb-false _ _ f in legal-end ws (cursor (i + 1) 0 p) h (omega arith) refl)

pub legal-start : (ws : List ℕ) → legal ws start ≡ true
legal-start ws =
    either (ltb 0 (length ws))
    (λ t. legal-in ws start (omega arith) (ltb-true _ _ t) (steps_pos (get_or ws 0 0)))
    (λ f. let n : length ws ≤ 0 = ltb-false _ _ f in legal-end ws start (omega arith) (omega arith) refl)

-- ---- one step

module _ (w i q p : ℕ) where
  -- past a word that covers none
  pub step-none : covers_of w ≡ 0 → step_of w (cursor i q p) ≡ cursor (i + 1) 0 p
  unfolding step_of
  step-none z = rw (eq-eqb _ _ z)

  -- to the word's next place
  pub step-inner : q + 1 < covers_of w → step_of w (cursor i q p) ≡ cursor i (q + 1) (next_position p)
  unfolding step_of
  step-inner k = let n : covers_of w ≡ 0 → ⊥ = λ (z : covers_of w ≡ 0). omega arith in rw (ne_eqb _ _ n, lt-ltb _ _ k)

  -- past the word's last place
  pub step-last : q + 1 ≡ covers_of w → step_of w (cursor i q p) ≡ cursor (i + 1) 0 (next_position p)
  unfolding step_of
  step-last k =
      let n : covers_of w ≡ 0 → ⊥ = λ (z : covers_of w ≡ 0). omega arith in
      let l : covers_of w ≤ q + 1 = omega arith in
      rw (ne_eqb _ _ n, le-ltb _ _ l)

  module _ (g : Range) where
    pub listed-none : covers_of w ≡ 0 → listed_at g w (cursor i q p) ≡ []
    unfolding listed_at
    listed-none z = rw (eq-eqb _ _ z)

    pub listed-place : 0 < covers_of w → listed_at g w (cursor i q p) ≡ cond (is_listed g p (value_of w q))
        (number_of g p ∷ []) []
    unfolding listed_at
    listed-place h = let n : covers_of w ≡ 0 → ⊥ = λ (z : covers_of w ≡ 0). omega arith in rw (ne_eqb _ _ n)

-- the three kinds of step, told apart
pub by-step : (w i q p : ℕ) (P : Cursor → Type 0) → q < steps_in w → (covers_of w ≡ 0 → P (cursor (i + 1) 0 p))
    → (q + 1 < covers_of w → P (cursor i (q + 1) (next_position p)))
    → (q + 1 ≡ covers_of w → P (cursor (i + 1) 0 (next_position p)))
    → P (step_of w (cursor i q p))
by-step w i q p P h none inner last =
    either (eqb (covers_of w) 0)
    (λ t. let z : covers_of w ≡ 0 = eqb-true _ _ t in rw (step-none w i q p z) (none z))
    (λ f. let n : covers_of w ≡ 0 → ⊥ = eqb-false _ _ f in
    let u : 0 < covers_of w = omega arith in
    let e : steps_in w ≡ covers_of w = steps-some w u in
    either (ltb (q + 1) (covers_of w))
    (λ t. let k : q + 1 < covers_of w = ltb-true _ _ t in rw (step-inner w i q p k) (inner k))
    (λ x. let k : covers_of w ≤ q + 1 = ltb-false _ _ x in
    let l : q + 1 ≡ covers_of w = omega arith in
    rw (step-last w i q p l) (last l)))

-- a step lists at most one number
pub length-listed : (g : Range) (w : ℕ) (c : Cursor) → length (listed_at g w c) ≤ 1
unfolding listed_at
length-listed g w c =
    both (λ (l : List ℕ). length l ≤ 1) (eqb (covers_of w) 0) (λ _. omega arith)
    (λ _. both (λ (l : List ℕ). length l ≤ 1) (is_listed g c.position (value_of w c.place)) (λ _. omega arith)
    (λ _. omega arith))
