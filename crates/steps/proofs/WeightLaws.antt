-- The events of a complete item, and how many they are: the one place that unfolds `shown_by`. Assumes nothing.
use Rattle.std.specs.Prelude.{Option, Some, None}
use Prim.Native.Nat.{ℕ, ◌≤◌}
use mathlib.Core.Path.{◌≡◌}
use mathlib.Core.List.{map}
use native.Mathlib.Omega.{arith}
use lib.ListN.{length, take, length-map, length-take}
use lib.Dec.{eqb}
use borrow.Author.Tests.{eq-eqb, ne_eqb}
use Rattle.def_portions.specs.declared.Event.{Event}
use Rattle.laws.proofs.Tests.{either}
use Rattle.def_standard.specs.Chunks.{values_in}
use Rattle.def_portions.specs.declared.Event.TheVariants.{Number}
use Rattle.range.specs.Steps.{step_of}
use Rattle.chunk.specs.Ones.{ones_before}
use Rattle.chunk.proofs.ChunkLaws.{length-values_in, covers-lt}
use Rattle.ones.proofs.ListingLaws.{length-along-le}
use Rattle.ones.proofs.WordLaws.{length-ones}
use Rattle.states.specs.declared.Known.{Known}
use Rattle.states.specs.declared.Portions.{Portions}
use Rattle.states.specs.Steps.{word, low16, thinning_in, numbers_in, shown_by, lone_of, list_of}

module _ (st : Portions) where
  -- a word's events, and any other item's
  pub shown-word : st.item ≡ word → shown_by st ≡ map Number (numbers_in st.known (low16 st.held))
  unfolding shown_by
  shown-word e = rw (eq-eqb _ _ e)

  pub shown-lone : (x : Option Event) → (st.item ≡ word → ⊥) → lone_of st ≡ x → shown_by st ≡ list_of x
  unfolding shown_by
  shown-lone x n e = rw (ne_eqb _ _ n, e)

  -- how many they are
  pub weight-word : st.item ≡ word
      → length (ones_before (low16 st.held) st.known.inside) ≡ length (shown_by st)
  weight-word e =
      let k = st.known in
      rw (shown-word e, length-map)
      (length-ones (step_of (thinning_in k)) k.next k.inside (low16 st.held))

  pub weight-lone : (x : Option Event) → (st.item ≡ word → ⊥) → lone_of st ≡ x → length (list_of x) ≡ length (shown_by st)
  weight-lone x n e = rw (shown-lone x n e)

-- a word covers at most 16,383 positions
numbers-most : (k : Known) (w : ℕ) → length (numbers_in k w) ≤ 16383
numbers-most k w = let l = take k.inside (values_in w) in
    omega (
      arith,
      length-along-le (step_of (thinning_in k)) k.next l,
      length-take k.inside (values_in w),
      length-values_in w,
      covers-lt w,
    )

lone-most : (x : Option Event) → length (list_of x) ≤ 16383
lone-most (Some e) = omega arith
lone-most None = omega arith

pub weight-most : (st : Portions) → length (shown_by st) ≤ 16383
unfolding shown_by
weight-most st =
    either (eqb st.item word)
    (λ t. rw (t, length-map) (numbers-most st.known (low16 st.held)))
    (λ f. rw f (lone-most (lone_of st)))
