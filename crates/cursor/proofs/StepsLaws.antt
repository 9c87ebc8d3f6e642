-- Several steps: none, one more, none at the end, and a and then b: the one place that unfolds `taken_by`,
-- `after_steps` and `listed_by`. Assumes nothing.
--     taken_none, after_none, listed-zero    no steps
--     taken-suc, after-suc, listed_suc       one step and then k
--     taken-end, after-end, listed-end       there is no step at the end
--     taken-add, after-add, listed-add       a + b steps are a steps and then b
--     listed_le                              no more are listed than steps are asked
use Prim.Native.Nat.{ℕ, zero, suc, ◌+◌, ◌≤◌, ◌<◌}
use mathlib.Core.Path.{◌≡◌, refl}
use mathlib.Core.List.{List, [], ◌++◌, append_assoc}
use native.Mathlib.Nat.{zero-add, suc-add}
use native.Mathlib.Omega.{arith}
use lib.ListN.{length, length-append}
use lib.Dec.{ltb}
use borrow.Author.Tests.{le-ltb, lt-ltb, ltb-true, ltb-false}
use Rattle.laws.proofs.Tests.{either}
use Rattle.def_standard.specs.declared.Range.{Range}
use Rattle.def_cursor.specs.declared.Cursor.{Cursor}
use Rattle.def_cursor.specs.Cursor.{word_at, step_of, listed_at, taken_by, after_steps, listed_by}
use Rattle.cursor.proofs.LegalLaws.{length-listed}

-- ---- at the end

module _ (ws : List ℕ) (c : Cursor) (h : length ws ≤ c.word) where
  pub taken-end : (k : ℕ) → taken_by ws k c ≡ 0
  unfolding taken_by
  taken-end zero = refl
  taken-end (suc k) = rw (le-ltb _ _ h)

  pub after-end : (k : ℕ) → after_steps ws k c ≡ c
  unfolding after_steps
  after-end zero = refl
  after-end (suc k) = rw (le-ltb _ _ h)

  pub listed-end : (g : Range) (k : ℕ) → listed_by g ws k c ≡ []
  unfolding listed_by
  listed-end g zero = refl
  listed-end g (suc k) = rw (le-ltb _ _ h)

-- ---- none, and one more

module _ (ws : List ℕ) (c : Cursor) where
  pub taken_none : taken_by ws 0 c ≡ 0
  unfolding taken_by
  taken_none = refl

  pub after_none : after_steps ws 0 c ≡ c
  unfolding after_steps
  after_none = refl

  pub listed-zero : (g : Range) → listed_by g ws 0 c ≡ []
  unfolding listed_by
  listed-zero g = refl

  module _ (k : ℕ) (h : c.word < length ws) where
    pub taken-suc : taken_by ws (suc k) c ≡ suc (taken_by ws k (step_of (word_at ws c) c))
    unfolding taken_by
    taken-suc = rw (lt-ltb _ _ h)

    pub after-suc : after_steps ws (suc k) c ≡ after_steps ws k (step_of (word_at ws c) c)
    unfolding after_steps
    after-suc = rw (lt-ltb _ _ h)

    pub listed_suc : (g : Range) → listed_by g ws (suc k) c ≡ listed_at g (word_at ws c) c
        ++ listed_by g ws k (step_of (word_at ws c) c)
    unfolding listed_by
    listed_suc g = rw (lt-ltb _ _ h)

-- ---- a steps and then b

module _ (ws : List ℕ) (b : ℕ) where
  pub after-add : (a : ℕ) (c : Cursor) → after_steps ws (a + b) c ≡ after_steps ws b (after_steps ws a c)
  after-add zero c = rw (zero-add, after_none ws c)
  after-add (suc a) c =
      either (ltb c.word (length ws))
      (λ t. let h : c.word < length ws = ltb-true _ _ t in
      rw (suc-add, after-suc ws c (a + b) h, after-suc ws c a h) (after-add a (step_of (word_at ws c) c)))
      (λ f. let h : length ws ≤ c.word = ltb-false _ _ f in
      rw (after-end ws c h (suc a + b), after-end ws c h (suc a), after-end ws c h b))

  pub taken-add : (a : ℕ) (c : Cursor) → taken_by ws (a + b) c ≡ taken_by ws a c + taken_by ws b (after_steps ws a c)
  taken-add zero c = rw (zero-add, after_none ws c, taken_none ws c, zero-add)
  taken-add (suc a) c =
      either (ltb c.word (length ws))
      (λ t. let h : c.word < length ws = ltb-true _ _ t in
      rw (
        suc-add,
        taken-suc ws c (a + b) h,
        taken-suc ws c a h,
        after-suc ws c a h,
        taken-add a (step_of (word_at ws c) c),
        suc-add,
      ))
      (λ f. let h : length ws ≤ c.word = ltb-false _ _ f in
      rw (taken-end ws c h (suc a + b), taken-end ws c h (suc a), after-end ws c h (suc a), taken-end ws c h b))

  pub listed-add : (g : Range) (a : ℕ) (c : Cursor) → listed_by g ws (a + b) c ≡ listed_by g ws a c
      ++ listed_by g ws b (after_steps ws a c)
  listed-add g zero c = rw (zero-add, after_none ws c, listed-zero ws c g)
  listed-add g (suc a) c =
      either (ltb c.word (length ws))
      (λ t. let h : c.word < length ws = ltb-true _ _ t in
      rw (
        suc-add,
        listed_suc ws c (a + b) h g,
        listed_suc ws c a h g,
        after-suc ws c a h,
        listed-add g a (step_of (word_at ws c) c),
        append_assoc,
      ))
      (λ f. let h : length ws ≤ c.word = ltb-false _ _ f in
      rw (
        listed-end ws c h g (suc a + b),
        listed-end ws c h g (suc a),
        after-end ws c h (suc a),
        listed-end ws c h g b,
      ))

-- no more are listed than steps are asked
pub listed_le : (g : Range) (ws : List ℕ) (k : ℕ) (c : Cursor) → length (listed_by g ws k c) ≤ k
listed_le g ws zero c = rw (listed-zero ws c g) (omega arith)
listed_le g ws (suc k) c =
    either (ltb c.word (length ws))
    (λ t. let h : c.word < length ws = ltb-true _ _ t in
    rw (listed_suc ws c k h g, length-append) (omega (
      arith,
      length-listed g (word_at ws c) c,
      listed_le g ws k (step_of (word_at ws c) c),
    )))
    (λ f. rw (listed-end ws c (ltb-false _ _ f) g (suc k)) (omega arith))
