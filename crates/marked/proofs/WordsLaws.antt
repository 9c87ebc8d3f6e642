-- The laws of the words made from marks: the one place that unfolds `word_for`, `taken_by` and `words_from`. Assumes
-- nothing.
--     run_length_lem               a run is as long as it can be
--     taken-least, taken-most  a word takes 15 marks or more, and at most 16,383
--     word-run, taken-run      the next word where 15 or more marks are m
--     word-vector, ..          and where fewer are
--     words-nil, words-cons    the words of no marks, and of some
--     by-words                 what holds of no marks, and of some where it holds behind their first word, holds
--     words-few                a word for each 15 marks, and one for the rest
use Prim.Native.Nat.{ℕ, zero, suc, ◌+◌, ◌*◌, ◌≤◌, ◌<◌, min}
use mathlib.Core.Path.{◌≡◌, refl, ap, ◌∙◌}
use mathlib.Core.Bool.{true}
use mathlib.Core.List.{List, [], ◌∷◌}
use native.Mathlib.Omega.{arith}
use lib.ListN.{length, drop, length-drop}
use lib.Dec.{leb}
use borrow.Author.Tests.{leb-true, leb-false, le-leb, lt-leb}
use Rattle.laws.proofs.Tests.{both}
use Rattle.def_marks.specs.Marks.{run_of, bits_of, first_mark, ahead, is_run, run_length, word_for, taken_by}
use Rattle.def_marks.specs.Marks.{words_from, words_of}
use Rattle.marked.proofs.RunLaws.{run-each}

-- the longest run that is made
pub run_length_lem : (ms : List ℕ) → run_length ms ≡ min (ahead ms) 16383
run_length_lem ms =
    both (λ (n : ℕ). n ≡ min (ahead ms) 16383) (leb (ahead ms) 16383)
    (λ t. omega (arith, leb-true (ahead ms) 16383 t)) (λ t. omega (arith, leb-false (ahead ms) 16383 t))

pub taken-least : (ms : List ℕ) → 15 ≤ taken_by ms
unfolding taken_by
taken-least ms =
    both (λ (n : ℕ). 15 ≤ n) (is_run ms) (λ t. omega (arith, run_length_lem ms, leb-true 15 (ahead ms) t)) (λ _. omega arith)

pub taken-most : (ms : List ℕ) → taken_by ms ≤ 16383
unfolding taken_by
taken-most ms =
    both (λ (n : ℕ). n ≤ 16383) (is_run ms) (λ t. omega (arith, run_length_lem ms)) (λ _. omega arith)

-- 15 or more marks, from the first on, are m
module _ (m : ℕ) (ms : List ℕ) (h : 15 ≤ run_of m ms) where
  first-is : first_mark ms ≡ m
  first-is = run-each m ms 0 (omega (arith, h))

  is-run : is_run ms ≡ true
  is-run = rw first-is (le-leb 15 (run_of m ms) h)

  length-is : run_length ms ≡ min (run_of m ms) 16383
  length-is = run_length_lem ms ∙ (rw first-is)

  pub word-run : word_for ms ≡ m * 16384 + min (run_of m ms) 16383
  unfolding word_for
  word-run = rw (is-run, length-is, first-is)

  pub taken-run : taken_by ms ≡ min (run_of m ms) 16383
  unfolding taken_by
  taken-run = rw (is-run, length-is)

-- fewer are equal
module _ (ms : List ℕ) (h : ahead ms < 15) where
  pub word-vector : word_for ms ≡ 32768 + bits_of 15 ms
  unfolding word_for
  word-vector = rw (lt-leb 15 (ahead ms) h)

  pub taken-vector : taken_by ms ≡ 15
  unfolding taken_by
  taken-vector = rw (lt-leb 15 (ahead ms) h)

-- ---- all the words

-- fuel that is enough makes no difference
words-fuel : (f g : ℕ) (ms : List ℕ) → length ms ≤ f → length ms ≤ g → words_from f ms ≡ words_from g ms
unfolding words_from
words-fuel zero zero [] a b = refl
words-fuel zero (suc g) [] a b = refl
words-fuel (suc f) zero [] a b = refl
words-fuel (suc f) (suc g) [] a b = refl
words-fuel zero g (m ∷ ms) a b = absurd (omega arith)
words-fuel (suc f) zero (m ∷ ms) a b = absurd (omega arith)
words-fuel (suc f) (suc g) (m ∷ ms) a b =
    let t : ℕ = taken_by (m ∷ ms) in
    let l = length-drop t (m ∷ ms) in
    ap (λ (ws : List ℕ). word_for (m ∷ ms) ∷ ws)
    (words-fuel f g (drop t (m ∷ ms)) (omega (arith, taken-least (m ∷ ms), l)) (omega (arith, taken-least (m ∷ ms), l)))

pub words-nil : (ms : List ℕ) → length ms ≡ 0 → words_of ms ≡ []
unfolding words_from
words-nil [] h = refl
words-nil (m ∷ ms) h = absurd (omega arith)

pub words-cons : (ms : List ℕ) → 0 < length ms → words_of ms ≡ word_for ms ∷ words_of (drop (taken_by ms) ms)
unfolding words_from
words-cons [] h = absurd (omega arith)
words-cons (m ∷ ms) h =
    let t : ℕ = taken_by (m ∷ ms) in
    let rest : List ℕ = drop t (m ∷ ms) in
    ap (λ (ws : List ℕ). word_for (m ∷ ms) ∷ ws)
    (words-fuel (length ms) (length rest) rest
    (omega (arith, taken-least (m ∷ ms), length-drop t (m ∷ ms))) (omega arith))

module _ (P : List ℕ → List ℕ → Type 0) (none : P [] [])
    (more : (ms : List ℕ) → 0 < length ms → P (drop (taken_by ms) ms) (words_of (drop (taken_by ms) ms))
    → P ms (word_for ms ∷ words_of (drop (taken_by ms) ms))) where
  by-fuel : (f : ℕ) (ms : List ℕ) → length ms ≤ f → P ms (words_of ms)
  by-fuel zero [] h = rw (words-nil [] refl) none
  by-fuel zero (m ∷ ms) h = absurd (omega arith)
  by-fuel (suc f) [] h = rw (words-nil [] refl) none
  by-fuel (suc f) (m ∷ ms) h =
      let t : ℕ = taken_by (m ∷ ms) in
      rw (words-cons (m ∷ ms) (omega arith))
      (more (m ∷ ms) (omega arith)
      (by-fuel f (drop t (m ∷ ms)) (omega (arith, taken-least (m ∷ ms), length-drop t (m ∷ ms)))))

  pub by-words : (ms : List ℕ) → P ms (words_of ms)
  by-words ms = by-fuel (length ms) ms (omega arith)

pub words-few : (ms : List ℕ) → 15 * length (words_of ms) ≤ length ms + 14
words-few =
    by-words (λ ms ws. 15 * length ws ≤ length ms + 14) (omega arith)
    (λ ms some h. omega (arith, some, h, taken-least ms, length-drop (taken_by ms) ms))
