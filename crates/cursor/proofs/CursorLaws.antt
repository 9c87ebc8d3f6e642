-- A stretch of many steps, as theorems about the definitions. Assumes nothing.
--     taken-le        no call takes more steps than its budget
--     taken-least     it takes the lesser of its budget and the steps left
--     all-numbers     with steps enough, a cursor lists what is left of the words
use Prim.Native.Nat.{ℕ, zero, suc, ◌+◌, ◌-◌, min, ◌≤◌, ◌<◌}
use mathlib.Core.Path.{◌≡◌, refl, sym, ap, ◌∙◌}
use mathlib.Core.Bool.{true, cond}
use mathlib.Core.List.{List, [], ◌∷◌, ◌++◌}
use native.Mathlib.Omega.{arith}
use native.Mathlib.Numerals.{add-one}
use lib.ListN.{length, get_or, drop, length-append, drop_of_length-le, get_or-append}
use lib.Seq.{drop-cons, drop_at, drop-nil}
use lib.Dec.{ltb}
use borrow.Author.Tests.{ltb-true, ltb-false}
use Rattle.laws.proofs.Tests.{either}
use Rattle.def_standard.specs.declared.Range.{Range}
use Rattle.def_standard.specs.Chunks.{covers_of, value_of, values_in}
use Rattle.def_standard.specs.Range.{circle, number_of}
use Rattle.def_standard.specs.Standard.{values_of, is_listed, numbers_from, numbers_of}
use Rattle.chunk.proofs.ChunkLaws.{length-values_in, values-at}
use Rattle.range.specs.Inside.{inside_count}
use Rattle.ones.specs.Places.{numbers_in}
use Rattle.ones.proofs.NumbersLaws.{numbers_in-cons}
use Rattle.def_cursor.specs.declared.Cursor.{Cursor}
use Rattle.def_cursor.specs.Cursor.{cursor, start, steps_in, word_at, legal, next_position, step_of, listed_at, taken_by}
use Rattle.def_cursor.specs.Cursor.{listed_by, steps_left}
use Rattle.cursor.proofs.LegalLaws.{steps-some, steps-none, legal-position, legal-place, legal-in, legal-next}
use Rattle.cursor.proofs.LegalLaws.{listed-none, listed-place, by-step}
use Rattle.cursor.proofs.StepsLaws.{taken_none, taken-suc, taken-end, listed-zero, listed_suc, listed-end}
use Rattle.cursor.proofs.WithinLaws.{numbers-capped, join}

-- ---- steps

pub taken-le : (ws : List ℕ) (k : ℕ) (c : Cursor) → taken_by ws k c ≤ k
taken-le ws zero c = rw (taken_none ws c) (omega arith)
taken-le ws (suc k) c =
    either (ltb c.word (length ws))
    (λ t. rw (taken-suc ws c k (ltb-true _ _ t)) (omega (arith, taken-le ws k (step_of (word_at ws c) c))))
    (λ f. rw (taken-end ws c (ltb-false _ _ f) (suc k)) (omega arith))

-- the steps left from a cursor on
abbrev left_from : List ℕ → Cursor → ℕ
left_from ws c = steps_left (drop c.word ws) c.place

left_end : (ws : List ℕ) (c : Cursor) → length ws ≤ c.word → left_from ws c ≡ 0
unfolding steps_left
left_end ws c h = rw (drop_of_length-le ws {i = c.word} h)

module _ (ws : List ℕ) (c : Cursor) (e : legal ws c ≡ true) (h : c.word < length ws) where
  abbrev here : ℕ
  here = word_at ws c

  abbrev next : Cursor
  next = step_of here c

  in_place : c.place < steps_in here
  in_place = legal-place ws c e h

  pub legal-step : legal ws next ≡ true
  legal-step =
      let p : c.position ≤ circle = legal-position ws c e in
      by-step here c.word c.place c.position (λ (d : Cursor). legal ws d ≡ true) in_place
      (λ _. legal-next ws c.word c.position p h)
      (λ k. legal-in ws (cursor c.word (c.place + 1) (next_position c.position)) (omega arith) h
      (let s : steps_in here ≡ covers_of here = steps-some here (omega arith) in omega arith))
      (λ _. legal-next ws c.word (next_position c.position) (omega arith) h)

  left_here : (q : ℕ) → steps_left (drop c.word ws) q ≡ steps_in here - q + steps_left (drop (c.word + 1) ws) 0
  unfolding steps_left
  left_here q = rw (add-one, drop-cons ws c.word 0)

  -- each step is one fewer
  left_step : left_from ws c ≡ suc (left_from ws next)
  left_step =
      by-step here c.word c.place c.position (λ (d : Cursor). left_from ws c ≡ suc (left_from ws d)) in_place
      (λ z. let s : steps_in here ≡ 1 = steps-none here z in omega (arith, left_here c.place, in_place))
      (λ k. let s : steps_in here ≡ covers_of here = steps-some here (omega arith) in
      omega (arith, left_here c.place, left_here (c.place + 1)))
      (λ l. let s : steps_in here ≡ covers_of here = steps-some here (omega arith) in omega (arith, left_here c.place))

-- a call takes the lesser of its budget and the steps left
pub taken-least : (ws : List ℕ) (k : ℕ) (c : Cursor) → legal ws c ≡ true
    → taken_by ws k c ≡ min k (steps_left (drop c.word ws) c.place)
taken-least ws zero c e = rw (taken_none ws c) (omega arith)
taken-least ws (suc k) c e =
    either (ltb c.word (length ws))
    (λ t. let h : c.word < length ws = ltb-true _ _ t in
    rw (taken-suc ws c k h) (omega (
      arith,
      taken-least ws k (step_of (word_at ws c) c) (legal-step ws c e h),
      left_step ws c e h,
    )))
    (λ f. let h : length ws ≤ c.word = ltb-false _ _ f in
    rw (taken-end ws c h (suc k)) (omega (arith, left_end ws c h)))

-- ---- numbers

-- what is left to be listed from a cursor on
unfoldable pub rest_from : Range → List ℕ → Cursor → List ℕ
rest_from g ws c = numbers_in g c.position (drop c.place (values_of (drop c.word ws)))

module _ (g : Range) (s : inside_count g ≤ circle) (ws : List ℕ) where
  rest_end : (c : Cursor) → length ws ≤ c.word → rest_from g ws c ≡ []
  unfolding rest_from values_of numbers_in
  rest_end c h = rw (drop_of_length-le ws {i = c.word} h, drop-nil c.place)

  module _ (i q p : ℕ) (h : i < length ws) where
    abbrev word : ℕ
    word = get_or ws i 0

    values-here : values_of (drop i ws) ≡ values_in word ++ values_of (drop (i + 1) ws)
    unfolding values_of
    values-here = rw (add-one, drop-cons ws i 0)

    -- past a word that covers none
    rest-none : covers_of word ≡ 0 → q ≡ 0 → rest_from g ws (cursor i q p) ≡ rest_from g ws (cursor (i + 1) 0 p)
    unfolding rest_from
    rest-none z e = rw e (ap (numbers_in g p) (values-here
        ∙ drop_at (values_in word) (values_of (drop (i + 1) ws)) 0 (length-values_in word ∙ z)))

    -- a place's number, and the rest
    rest-place : q < covers_of word → rest_from g ws (cursor i q p) ≡ cond (is_listed g p (value_of word q))
        (number_of g p ∷ []) [] ++ numbers_in g (next_position p) (drop (q + 1) (values_of (drop i ws)))
    unfolding rest_from
    rest-place k =
        let l : q < length (values_in word) = omega (arith, length-values_in word) in
        let m : q < length (values_of (drop i ws)) = rw (values-here, length-append) (omega arith) in
        let v : get_or (values_of (drop i ws)) q 0 ≡ value_of word q = rw values-here
        (get_or-append (values_in word) (values_of (drop (i + 1) ws)) 0 q l ∙ values-at word q k) in
        rw (
          drop-cons (values_of (drop i ws)) q 0 m,
          v,
          numbers_in-cons g p (value_of word q)
              (drop (suc q) (values_of (drop i ws))),
          numbers-capped g s (p + 1) (drop (q + 1) (values_of (drop i ws))),
          add-one p,
          add-one q,
        )
        (sym (join (is_listed g p (value_of word q)) (number_of g p)
        (numbers_in g (suc p) (drop (suc q) (values_of (drop i ws))))))

    -- past the last place the next word's values follow
    rest-last : q + 1 ≡ covers_of word → (r : ℕ) → numbers_in g r (drop (q + 1) (values_of (drop i ws))) ≡ rest_from g ws
        (cursor (i + 1) 0 r)
    unfolding rest_from
    rest-last e r = rw (
      values-here,
      drop_at (values_in word) (values_of (drop (i + 1) ws)) (q + 1)
          (length-values_in word ∙ sym e),
    )

    rest-inner : (r : ℕ) → numbers_in g r (drop (q + 1) (values_of (drop i ws))) ≡ rest_from g ws (cursor i (q + 1) r)
    unfolding rest_from
    rest-inner r = refl

    -- what one step lists, and then the rest
    rest-step : q < steps_in word → rest_from g ws (cursor i q p) ≡ listed_at g word (cursor i q p)
        ++ rest_from g ws (step_of word (cursor i q p))
    rest-step b =
        by-step word i q p (λ (d : Cursor). rest_from g ws (cursor i q p) ≡ listed_at g word (cursor i q p)
        ++ rest_from g ws d) b
        (λ z. rw (listed-none word i q p g z) (rest-none z (omega (arith, steps-none word z))))
        (λ k. rw (listed-place word i q p g (omega arith), ← rest-inner (next_position p)) (rest-place (omega arith)))
        (λ l. rw (listed-place word i q p g (omega arith), ← rest-last l (next_position p)) (rest-place (omega arith)))

  -- with steps enough, a cursor lists what is left
  pub all-numbers : (k : ℕ) (c : Cursor) → legal ws c ≡ true → steps_left (drop c.word ws) c.place ≤ k
      → listed_by g ws k c ≡ rest_from g ws c
  all-numbers zero c e l =
      either (ltb c.word (length ws))
      (λ t. absurd (omega (arith, left_step ws c e (ltb-true _ _ t))))
      (λ f. rw (listed-zero ws c g) (sym (rest_end c (ltb-false _ _ f))))
  all-numbers (suc k) c e l =
      either (ltb c.word (length ws))
      (λ t. let h : c.word < length ws = ltb-true _ _ t in
      rw (
        listed_suc ws c k h g,
        all-numbers k (step_of (word_at ws c) c) (legal-step ws c e h)
            (omega (arith, left_step ws c e h)),
      )
      (sym (rest-step c.word c.place c.position h (legal-place ws c e h))))
      (λ f. rw (listed-end ws c (ltb-false _ _ f) g (suc k)) (sym (rest_end c (ltb-false _ _ f))))

  pub rest-start : rest_from g ws start ≡ numbers_of g ws
  unfolding rest_from numbers_from numbers_in
  rest-start = refl
