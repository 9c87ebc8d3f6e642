-- Steps inside one word, at once: the one place that unfolds `moved_in`. Assumes nothing.
--     numbers-capped                              the position's stop at 65,536 changes nothing: the range has ended
--                                                 there
--     taken-within, after-within, listed-within   m steps that do not go past the word at hand
--     legal-moved                                 they lead to a legal cursor
use Prim.Native.Nat.{ℕ, zero, suc, ◌+◌, min, ◌≤◌, ◌<◌}
use mathlib.Core.Path.{◌≡◌, refl, sym, ap, ◌∙◌}
use mathlib.Core.Bool.{Bool, true, false, cond}
use mathlib.Core.List.{List, [], ◌∷◌, ◌++◌}
use native.Mathlib.Omega.{arith}
use native.Mathlib.Numerals.{add-one}
use lib.ListN.{length, get_or, drop_of_length-le}
use lib.Seq.{drop-cons, take-nil}
use lib.Dec.{ltb, eqb}
use borrow.Author.Tests.{le-ltb, lt-ltb, ltb-true, ltb-false, eqb-true, eqb-false}
use Rattle.laws.proofs.Tests.{both, either}
use Rattle.def_standard.specs.declared.Range.{Range}
use Rattle.def_standard.specs.Chunks.{covers_of, value_of, values_in}
use Rattle.def_standard.specs.Range.{circle, number_of}
use Rattle.def_standard.specs.Standard.{is_listed}
use Rattle.chunk.proofs.ChunkLaws.{length-values_in, values-at}
use Rattle.range.specs.Inside.{inside_count}
use Rattle.ones.specs.Places.{numbers_in}
use Rattle.ones.proofs.NumbersLaws.{numbers_in-outside, numbers_in-cons}
use Rattle.def_cursor.specs.declared.Cursor.{Cursor}
use Rattle.def_cursor.specs.Cursor.{cursor, steps_in, legal, next_position, step_of, taken_by, after_steps, listed_by}
use Rattle.cursor.specs.Steps.{places_in, position_in, moved_in}
use Rattle.cursor.proofs.LegalLaws.{steps-some, steps-none, legal-in, legal-next, step-none, step-inner}
use Rattle.cursor.proofs.LegalLaws.{step-last, listed-none, listed-place}
use Rattle.cursor.proofs.StepsLaws.{taken_none, after_none, listed-zero, taken-suc, after-suc, listed_suc}

-- the position's stop at 65,536 changes nothing: the range has ended there
pub numbers-capped : (g : Range) → inside_count g ≤ circle → (p : ℕ) (vs : List ℕ)
    → numbers_in g (min p circle) vs ≡ numbers_in g p vs
numbers-capped g s p vs =
    either (ltb p circle)
    (λ t. let h : p < circle = ltb-true _ _ t in let e : min p circle ≡ p = omega arith in rw e)
    (λ f. let h : circle ≤ p = ltb-false _ _ f in
    numbers_in-outside g (min p circle) vs (omega arith) ∙ sym (numbers_in-outside g p vs (omega arith)))

-- nothing is listed of no values
numbers-none : (g : Range) (p : ℕ) → numbers_in g p [] ≡ []
unfolding numbers_in
numbers-none g p = refl

-- what one step lists, and then the rest
pub join : (b : Bool) (x : ℕ) (l : List ℕ) → cond b (x ∷ []) [] ++ l ≡ cond b (x ∷ l) l
join true x l = refl
join false x l = refl

-- ---- moves, and one step as a move by one

module _ (w i q p : ℕ) where
  pub moved-inner : (m : ℕ) → q + m < steps_in w → moved_in w m (cursor i q p) ≡ cursor i (q + m) (position_in w m p)
  unfolding moved_in
  moved-inner m h = rw (lt-ltb _ _ h)

  pub moved-last : (m : ℕ) → steps_in w ≤ q + m → moved_in w m (cursor i q p) ≡ cursor (i + 1) 0 (position_in w m p)
  unfolding moved_in
  moved-last m h = rw (le-ltb _ _ h)

  position-none : covers_of w ≡ 0 → p ≤ circle → (m : ℕ) → position_in w m p ≡ p
  position-none z h m = rw z (omega arith)

  position-zero : p ≤ circle → position_in w 0 p ≡ p
  position-zero h = omega arith

  position-one : 0 < covers_of w → position_in w 1 p ≡ next_position p
  position-one h = omega arith

  position-suc : (m : ℕ) → suc m ≤ covers_of w → position_in w m (next_position p) ≡ position_in w (suc m) p
  position-suc m h = omega arith

  -- the last place's step
  step-out : p ≤ circle → q + 1 ≡ steps_in w → step_of w (cursor i q p) ≡ moved_in w 1 (cursor i q p)
  step-out h e =
      rw (moved-last 1 (omega arith))
      (either (eqb (covers_of w) 0)
      (λ t. let z : covers_of w ≡ 0 = eqb-true _ _ t in rw (step-none w i q p z, position-none z h 1))
      (λ f. let n : covers_of w ≡ 0 → ⊥ = eqb-false _ _ f in let k : 0 < covers_of w = omega arith in
      rw (position-one k) (step-last w i q p (omega (arith, steps-some w k)))))

  -- a step to the next place, and then m
  moved-suc : (m : ℕ) → q + suc m ≤ steps_in w → steps_in w ≡ covers_of w
      → moved_in w m (cursor i (q + 1) (next_position p)) ≡ moved_in w (suc m) (cursor i q p)
  unfolding moved_in
  moved-suc m l e =
      let s : q + 1 + m ≡ q + suc m = omega arith in
      rw (s, position-suc m (omega arith))

-- ---- m steps

module _ (ws : List ℕ) (i : ℕ) (h : i < length ws) where
  abbrev here : ℕ
  here = get_or ws i 0

  -- a word with a second place covers as many places as it takes steps
  covers_more : (q : ℕ) → q + 1 < steps_in here → steps_in here ≡ covers_of here
  covers_more q k =
      either (eqb (covers_of here) 0) (λ t. absurd (omega (arith, steps-none here (eqb-true _ _ t))))
      (λ f. let n : covers_of here ≡ 0 → ⊥ = eqb-false _ _ f in let l : 0 < covers_of here = omega arith in
      steps-some here l)

  pub after-within : (m q p : ℕ) → p ≤ circle → q < steps_in here → q + m ≤ steps_in here
      → after_steps ws m (cursor i q p) ≡ moved_in here m (cursor i q p)
  after-within zero q p b k l =
      let z : q + 0 ≡ q = omega arith in
      rw (after_none ws (cursor i q p), moved-inner here i q p 0 (omega arith), position-zero here i q p b, z)
  after-within (suc m) q p b k l =
      rw (after-suc ws (cursor i q p) m h)
      (either (ltb (q + 1) (steps_in here))
      (λ t. let j : q + 1 < steps_in here = ltb-true _ _ t in
      let e : steps_in here ≡ covers_of here = covers_more q j in
      rw (step-inner here i q p (omega arith), after-within m (q + 1) (next_position p) (omega arith) j (omega arith))
      (moved-suc here i q p m l e))
      (λ f. let j : steps_in here ≤ q + 1 = ltb-false _ _ f in
      let e : m ≡ 0 = omega arith in
      rw (e, after_none ws (step_of here (cursor i q p))) (step-out here i q p b (omega arith))))

  pub taken-within : (m q p : ℕ) → q < steps_in here → q + m ≤ steps_in here → taken_by ws m (cursor i q p) ≡ m
  taken-within zero q p k l = taken_none ws (cursor i q p)
  taken-within (suc m) q p k l =
      rw (taken-suc ws (cursor i q p) m h)
      (ap suc
      (either (ltb (q + 1) (steps_in here))
      (λ t. let j : q + 1 < steps_in here = ltb-true _ _ t in
      let e : steps_in here ≡ covers_of here = covers_more q j in
      rw (step-inner here i q p (omega arith)) (taken-within m (q + 1) (next_position p) j (omega arith)))
      (λ f. let j : steps_in here ≤ q + 1 = ltb-false _ _ f in
      let e : m ≡ 0 = omega arith in
      rw e (taken_none ws (step_of here (cursor i q p))))))

  -- the values of the places from q on
  places-none : (q m : ℕ) → covers_of here ≡ 0 → places_in here q m ≡ []
  places-none q m z = rw (drop_of_length-le (values_in here) {i = q} (omega (arith, length-values_in here))) (take-nil m)

  places-suc : (q m : ℕ) → q < covers_of here → places_in here q (suc m) ≡ value_of here q ∷ places_in here (q + 1) m
  places-suc q m k =
      let l : q < length (values_in here) = omega (arith, length-values_in here) in
      rw (drop-cons (values_in here) q 0 l, add-one, values-at here q k)

  module _ (g : Range) (s : inside_count g ≤ circle) where
    numbers-suc : (q p m : ℕ) → q < covers_of here
        → cond (is_listed g p (value_of here q)) (number_of g p ∷ []) []
        ++ numbers_in g (next_position p) (places_in here (q + 1) m) ≡ numbers_in g p (places_in here q (suc m))
    numbers-suc q p m k =
        rw (
          places-suc q m k,
          numbers_in-cons g p (value_of here q) (places_in here (q + 1) m),
          numbers-capped g s (p + 1) (places_in here (q + 1) m),
          add-one p,
        )
        (join (is_listed g p (value_of here q)) (number_of g p) (numbers_in g (suc p) (places_in here (q + 1) m)))

    pub listed-within : (m q p : ℕ) → q < steps_in here → q + m ≤ steps_in here
        → listed_by g ws m (cursor i q p) ≡ numbers_in g p (places_in here q m)
    listed-within zero q p k l = rw (listed-zero ws (cursor i q p) g, numbers-none g p)
    listed-within (suc m) q p k l =
        rw (listed_suc ws (cursor i q p) m h g)
        (either (eqb (covers_of here) 0)
        (λ t. let z : covers_of here ≡ 0 = eqb-true _ _ t in
        let e : m ≡ 0 = omega (arith, steps-none here z) in
        rw (
          listed-none here i q p g z,
          e,
          listed-zero ws (step_of here (cursor i q p)) g,
          places-none q 1 z,
          numbers-none g p,
        ))
        (λ f. let n : covers_of here ≡ 0 → ⊥ = eqb-false _ _ f in
        let u : 0 < covers_of here = omega arith in
        let c : steps_in here ≡ covers_of here = steps-some here u in
        rw (listed-place here i q p g u, ← numbers-suc q p m (omega arith))
        (ap (λ (r : List ℕ). cond (is_listed g p (value_of here q)) (number_of g p ∷ []) [] ++ r)
        (either (ltb (q + 1) (steps_in here))
        (λ t. let j : q + 1 < steps_in here = ltb-true _ _ t in
        rw (step-inner here i q p (omega arith)) (listed-within m (q + 1) (next_position p) j (omega arith)))
        (λ x. let j : steps_in here ≤ q + 1 = ltb-false _ _ x in
        let e : m ≡ 0 = omega arith in
        rw (e, listed-zero ws (step_of here (cursor i q p)) g) (sym (numbers-none g (next_position p))))))))

  -- they lead to a legal cursor
  pub legal-moved : (m q p : ℕ) → legal ws (moved_in here m (cursor i q p)) ≡ true
  unfolding moved_in
  legal-moved m q p =
      both (λ (d : Cursor). legal ws d ≡ true) (ltb (q + m) (steps_in here))
      (λ t. legal-in ws (cursor i (q + m) (min (p + min m (covers_of here)) circle)) (omega arith) h (ltb-true _ _ t))
      (λ _. legal-next ws i (min (p + min m (covers_of here)) circle) (omega arith) h)
