-- The numbers of some places of one word: numbers by positions are numbers one step apart, as far as the range goes.
-- Assumes nothing.
use Prim.Native.Nat.{ℕ, ◌-◌, min, ◌≤◌, ◌<◌}
use mathlib.Core.Path.{◌≡◌, ◌∙◌}
use mathlib.Core.List.{List}
use native.Mathlib.Omega.{arith}
use lib.ListN.{take, drop, length-take}
use lib.Seq.{take-take, take_all}
use lib.Dec.{ltb}
use borrow.Author.Tests.{ltb-true, ltb-false}
use Rattle.laws.proofs.Tests.{either}
use Rattle.def_standard.specs.declared.Range.{Range}
use Rattle.def_standard.specs.Chunks.{values_in}
use Rattle.def_standard.specs.Range.{number_of}
use Rattle.ones.specs.Along.{along}
use Rattle.range.specs.Inside.{inside_count}
use Rattle.range.specs.Steps.{step_of}
use Rattle.ones.specs.Places.{numbers_in}
use Rattle.ones.proofs.NumbersLaws.{numbers-along}
use Rattle.cursor.specs.Steps.{places_in}

take_min : (a b : ℕ) (l : List ℕ) → take a (take b l) ≡ take (min b a) l
take_min a b l =
    either (ltb a b)
    (λ t. let h : a < b = ltb-true _ _ t in let e : min b a ≡ a = omega arith in rw e (take-take a b l (omega arith)))
    (λ f. let h : b ≤ a = ltb-false _ _ f in let e : min b a ≡ b = omega arith in
    rw e (take_all a (take b l) (omega (arith, length-take b l))))

-- the numbers of m places: one step apart, as far as the range goes
pub numbers-places : (g : Range) (p w q m : ℕ)
    → numbers_in g p (places_in w q m) ≡ along (step_of g.thinning) (number_of g p)
    (places_in w q (min m (inside_count g - p)))
numbers-places g p w q m = numbers-along g p (places_in w q m)
    ∙ (rw (take_min (inside_count g - p) m (drop q (values_in w))))

-- the same numbers, whose parts are known by equations
pub along-same : {s s' f f' w w' m m' : ℕ} (q : ℕ) → s ≡ s' → f ≡ f' → w ≡ w' → m ≡ m'
    → along s f (places_in w q m) ≡ along s' f' (places_in w' q m')
along-same q a b c d = rw (a, b, c, d)
