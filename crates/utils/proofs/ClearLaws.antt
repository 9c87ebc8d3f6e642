-- The laws of a block's fitness to be read, and of words that hold no run of ones of no length. Assumes nothing.
--     then-fine                  a check, and then none
--     fit-*                      the standard's fitness, kind by kind: the length, and of types 1 and 2 the words
--     clear-fine, clear-lost     a rule that words meet, or do not; fine-clear, what it says where it is met
--     has-*                      whether a word is among others: one by one, behind each other, by their indices
use Rattle.std.specs.Prelude.{Ok, Err}
use Rattle.std.proofs.Common.{◌≡◌, ℕ, zero, suc, ◌<◌, Bool, true, false, not, ◌||◌, eqb, List, [], ◌∷◌, ◌++◌, length, get_or, replicate, sym, refl, ap, ◌∙◌, arith, ne_eqb}
use borrow.Author.Tests.{eqb-false}
use Rattle.laws.proofs.Tests.{either}
use Rattle.def_refusals.specs.declared.Refusal.TheVariants.{BadBlockLength}
use Rattle.def_refusals.specs.Answers.{then_check, Or}
use Rattle.def_wire.specs.declared.Reading.TheVariants.{Standard}
use Rattle.def_wire.specs.declared.Rle.{Rle}
use Rattle.def_wire.specs.declared.Ranged.TheVariants.{Chunks, Times}
use Rattle.def_wire.specs.declared.Kind.{Kind}
use Rattle.def_wire.specs.declared.Kind.TheVariants.{Spans, Clock, Echoes, Statistics}
use Rattle.def_wire.specs.Block.{words_at, rule, standard_rule, lost_run, has, clear_rule, word_rule, fitness}

pub then-fine : (x : Or (Unit {0})) → then_check x (Ok tt) ≡ x
then-fine (Ok _) = refl
then-fine (Err y) = refl

-- ---- the standard's fitness

module _ (v : List ℕ) where
  pub fit-chunks : (a : Rle) → fitness Standard (Spans (Chunks a)) v
      ≡ then_check (standard_rule (Spans (Chunks a)) (length v)) (clear_rule (length v) (words_at v))
  unfolding fitness
  fit-chunks a = refl

  pub fit-times : fitness Standard (Spans Times) v ≡ standard_rule (Spans Times) (length v)
  unfolding fitness
  fit-times = then-fine (standard_rule (Spans Times) (length v))

  pub fit-clock : fitness Standard Clock v ≡ standard_rule Clock (length v)
  unfolding fitness
  fit-clock = then-fine (standard_rule Clock (length v))

  pub fit-echoes : fitness Standard Echoes v ≡ standard_rule Echoes (length v)
  unfolding fitness
  fit-echoes = then-fine (standard_rule Echoes (length v))

  pub fit-statistics : fitness Standard Statistics v ≡ standard_rule Statistics (length v)
  unfolding fitness
  fit-statistics = then-fine (standard_rule Statistics (length v))

  -- a good length, and clear words
  pub fit-fine : (k : Kind) → standard_rule k (length v) ≡ Ok tt → word_rule k (length v) v ≡ Ok tt
      → fitness Standard k v ≡ Ok tt
  unfolding fitness
  fit-fine k e f = rw e f

-- ---- words

abbrev is_fine : Or (Unit {0}) → Bool
is_fine (Ok _) = true
is_fine (Err y) = false

module _ (l : ℕ) (ws : List ℕ) where
  pub clear-fine : has lost_run ws ≡ false → clear_rule l ws ≡ Ok tt
  unfolding clear_rule
  clear-fine e = rw e

  pub clear-lost : has lost_run ws ≡ true → clear_rule l ws ≡ Err (BadBlockLength 12 l)
  unfolding clear_rule
  clear-lost e = rw e

  ruled : (b : Bool) → rule (not b) 12 l ≡ Ok tt → b ≡ false
  ruled false e = refl
  ruled true e = sym (ap is_fine e)

  pub fine-clear : clear_rule l ws ≡ Ok tt → has lost_run ws ≡ false
  unfolding clear_rule
  fine-clear e = ruled (has lost_run ws) e

module _ (w : ℕ) where
  pub has-nil : has w [] ≡ false
  unfolding has
  has-nil = refl

  pub has-cons : (x : ℕ) (xs : List ℕ) → has w (x ∷ xs) ≡ (eqb x w || has w xs)
  unfolding has
  has-cons x xs = refl

  pub has_here : (x : ℕ) (xs : List ℕ) → x ≡ w → has w (x ∷ xs) ≡ true
  has_here x xs e = rw (has-cons x xs, e, eq_self)
    where
      eq_self : eqb w w ≡ true
      eq_self = either (eqb w w) (λ t. t) (λ f. absurd (eqb-false w w f refl))

  pub has-behind : (x : ℕ) (xs : List ℕ) → (x ≡ w → ⊥) → has w (x ∷ xs) ≡ has w xs
  has-behind x xs n = rw (has-cons x xs, ne_eqb x w n)

  pub has-append : (xs ys : List ℕ) → has w (xs ++ ys) ≡ (has w xs || has w ys)
  unfolding has
  has-append [] ys = refl
  has-append (x ∷ xs) ys =
      either (eqb x w) (λ t. rw t) (λ f. rw f (has-append xs ys))

  -- none of them is it
  pub has-none : (xs : List ℕ) → ((i : ℕ) → i < length xs → get_or xs i 0 ≡ w → ⊥) → has w xs ≡ false
  has-none [] h = has-nil
  has-none (x ∷ xs) h =
      has-behind x xs (h 0 (omega arith)) ∙ has-none xs (λ i l. h (suc i) (omega arith))

-- no zero word is a run of no length
pub has-zeros : (n : ℕ) → has lost_run (replicate n 0) ≡ false
unfolding has
has-zeros zero = refl
has-zeros (suc n) = has-zeros n
