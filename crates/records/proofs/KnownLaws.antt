-- The kinds that a reading knows: the crate knows all but type 6. Assumes nothing.
--     known-other     a type that is not 6 has one kind in both readings
use Rattle.std.specs.Prelude.{Option, Some, None}
use Prim.Native.Nat.{ℕ}
use mathlib.Core.Path.{◌≡◌, refl}
use mathlib.Core.Bool.{Bool, true, false, cond}
use lib.Dec.{eqb}
use borrow.Author.Tests.{ne_eqb}
use Rattle.def_wire.specs.declared.Ranged.{Ranged}
use Rattle.def_wire.specs.declared.Kind.{Kind}
use Rattle.def_wire.specs.declared.Reading.TheVariants.{Crate}
use Rattle.def_wire.specs.declared.Kind.TheVariants.{Clock, Echoes}
use Rattle.def_wire.specs.Block.{or_more, ranged_of, kind_of, known_to, kind_in}

abbrev more : Bool → Bool → Option Kind
more a b = cond a (Some Clock) (cond b (Some Echoes) None)

known_more : (a b : Bool) → known_to Crate (more a b) ≡ more a b
known_more true b = refl
known_more false true = refl
known_more false false = refl

known-or : (t : ℕ) (g : Option Ranged) → eqb t 6 ≡ false → known_to Crate (or_more t g) ≡ or_more t g
known-or t (Some g) n = refl
known-or t None n = rw n (known_more (eqb t 4) (eqb t 5))

pub known-other : (t : ℕ) → (t ≡ 6 → ⊥) → kind_in Crate t ≡ kind_of t
unfolding kind_of
known-other t n = known-or t (ranged_of t) (ne_eqb _ _ n)
