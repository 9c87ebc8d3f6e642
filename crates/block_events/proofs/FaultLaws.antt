-- Where a block's words hold a run of no length: 7, of types 1 and 2 alone. Assumes nothing.
--     rle-known                  the kind, as it was found
--     fault-lost, fault-clear    by whether its words hold one; fault-other, of another type
use Rattle.std.specs.Prelude.{Option, Ok, Err, Some, None}
use Rattle.std.proofs.Common.{◌≡◌, ℕ, true, false, eqb, List, length, take, drop, sym, ap, ◌∙◌, arith, length-drop, take_all}
use Rattle.laws.proofs.Tests.{either}
use Rattle.def_refusals.specs.declared.Refusal.TheVariants.{BadBlockLength}
use Rattle.def_wire.specs.declared.Rle.{Rle}
use Rattle.def_wire.specs.Bytes.{words16}
use Rattle.def_wire.specs.Block.{type_of, block_length, words_at, rle_of, ranged_of, kind_of, lost_run, has, clear_rule}
use Rattle.def_portions.specs.Events.{lost_fault}
use Rattle.utils.proofs.ClearLaws.{clear-fine, clear-lost}

module _ (v : List ℕ) where
  pub rle-known : {t : ℕ} {r k : Option Rle} → t ≡ type_of v → r ≡ rle_of t → r ≡ k → rle_of (type_of v) ≡ k
  rle-known e f g = ap rle_of (sym e) ∙ sym f ∙ g

  fault-rle : (a : Rle) → rle_of (type_of v) ≡ Some a
      → lost_fault (kind_of (type_of v)) v ≡ clear_rule (block_length v) (words_at v)
  unfolding kind_of ranged_of
  fault-rle a e = rw e

  -- the words from byte 12 on, to the last
  words-all : (p : List ℕ) → p ≡ take (length v) (drop 12 v) → words16 p ≡ words_at v
  words-all p e = ap words16 (e ∙ take_all (length v) (drop 12 v) (omega (arith, length-drop 12 v)))

  pub fault-lost : (a : Rle) → rle_of (type_of v) ≡ Some a → (n : ℕ) → n ≡ block_length v → (p : List ℕ)
      → p ≡ take (length v) (drop 12 v) → has lost_run (words16 p) ≡ true
      → Err (BadBlockLength 12 n) ≡ lost_fault (kind_of (type_of v)) v
  fault-lost a e n l p q h =
      sym (fault-rle a e ∙ clear-lost (block_length v) (words_at v) (ap (has lost_run) (sym (words-all p q)) ∙ h) ∙ rw l)

  pub fault-clear : (a : Rle) → rle_of (type_of v) ≡ Some a → (p : List ℕ) → p ≡ take (length v) (drop 12 v)
      → has lost_run (words16 p) ≡ false → (Ok tt) ≡ lost_fault (kind_of (type_of v)) v
  fault-clear a e p q h =
      sym (fault-rle a e ∙ clear-fine (block_length v) (words_at v) (ap (has lost_run) (sym (words-all p q)) ∙ h))

  pub fault-other : rle_of (type_of v) ≡ None → (Ok tt) ≡ lost_fault (kind_of (type_of v)) v
  unfolding kind_of ranged_of
  fault-other e =
      rw e
      (either (eqb (type_of v) 3) (λ t. rw t)
      (λ f. rw f
      (either (eqb (type_of v) 4) (λ t. rw t)
      (λ f. rw f
      (either (eqb (type_of v) 5) (λ t. rw t)
      (λ f. rw f (either (eqb (type_of v) 6) (λ t. rw t) (λ f. rw f))))))))
