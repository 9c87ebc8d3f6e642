-- The events of a complete item, as `put_word` and `put` store them. Assumes nothing.
use Rattle.std.specs.Prelude.{Some, None}
use Prim.Native.Nat.{ℕ, ◌+◌, ◌*◌, ◌%◌, ◌^◌}
use mathlib.Core.Path.{◌≡◌, sym, ap, ◌∙◌}
use mathlib.Core.List.{List, [], ◌∷◌, map}
use native.Mathlib.Nat.{one-mul}
use lib.ListN.{length, take, length-map}
use Rattle.def_standard.specs.Range.{circle}
use Rattle.def_standard.specs.Chunks.{values_in}
use Rattle.def_portions.specs.declared.Event.{Event}
use Rattle.def_portions.specs.declared.Event.TheVariants.{Number}
use Rattle.def_portions.specs.Lists.{tag_part, number_part, laid}
use Rattle.range.specs.Steps.{step_of}
use Rattle.ones.specs.Along.{along}
use Rattle.event_lists.specs.Laid.{Laid}
use Rattle.event_lists.proofs.LaidLaws.{laid_none, laid_as, laid_word}
use Rattle.states.specs.declared.Known.{Known}
use Rattle.states.specs.declared.Portions.{Portions}
use Rattle.states.specs.Steps.{word, low16, thinning_in, numbers_in, lone_of, shown_by}
use Rattle.steps.proofs.WeightLaws.{shown-word, shown-lone}

-- a word's numbers, with the step and the word as they were computed
pub numbers-stored : (k : Known) (h w t step : ℕ) → t ≡ thinning_in k → step ≡ 1 * 2 ^ t % circle → w ≡ low16 h
    → along step k.next (take k.inside (values_in w)) ≡ numbers_in k (low16 h)
numbers-stored k h w t step e f g = let s : step ≡ step_of (thinning_in k) = f ∙ (rw (one-mul, e)) in rw (s, g)

module _ (st : Portions) where
  -- a word's numbers xs
  module _ (xs : List ℕ) (i : st.item ≡ word) (e : xs ≡ numbers_in st.known (low16 st.held)) where
    shown-as : map Number xs ≡ shown_by st
    shown-as = rw e (sym (shown-word st i))

    pub length-word : length xs ≡ length (shown_by st)
    length-word = sym (length-map xs Number) ∙ ap length shown-as

    pub word-laid : {n n1 : ℕ} {t u v z t1 u1 : List ℕ} → t1 ≡ laid tag_part (map Number xs) n t
        → u1 ≡ laid number_part (map Number xs) n u → n1 ≡ n + length xs → Laid (shown_by st) n t u v z t1 u1 v z n1
    word-laid p q r = laid_as shown-as (laid_word xs p q r)

  -- one event e
  module _ (w : st.item ≡ word → ⊥) (e : Event) (o : lone_of st ≡ Some e) where
    pub length-lone : length (shown_by st) ≡ 1
    length-lone = ap length (shown-lone st (Some e) w o)

    pub lone-laid : {n n1 : ℕ} {t u v z t1 u1 v1 z1 : List ℕ} → Laid (e ∷ []) n t u v z t1 u1 v1 z1 n1
        → Laid (shown_by st) n t u v z t1 u1 v1 z1 n1
    lone-laid p = laid_as (sym (shown-lone st (Some e) w o)) p

  -- none
  pub nothing-laid : (st.item ≡ word → ⊥) → lone_of st ≡ None → {n : ℕ} {t u v z : List ℕ}
      → Laid (shown_by st) n t u v z t u v z n
  nothing-laid w o = laid_as (sym (shown-lone st None w o)) laid_none
