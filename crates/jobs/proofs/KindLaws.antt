-- The kind of block that a record asks for. Assumes nothing.
--     kind_of-none            no kind is over 6
--     kind-is, kind-spans    a record's kind, as it was told apart
use Rattle.std.specs.Prelude.{Option, Some, None}
use Prim.Native.Nat.{ℕ, ◌<◌}
use mathlib.Core.Path.{◌≡◌}
use native.Mathlib.Omega.{arith}
use borrow.Author.Tests.{ne_eqb}
use Rattle.def_wire.specs.declared.Ranged.{Ranged}
use Rattle.def_wire.specs.declared.Kind.{Kind}
use Rattle.def_wire.specs.declared.Kind.TheVariants.{Spans}
use Rattle.def_wire.specs.Block.{rle_of, ranged_of, kind_of}

-- no kind over 6
pub kind_of-none : (t : ℕ) → 6 < t → kind_of t ≡ None
unfolding kind_of ranged_of rle_of
kind_of-none t h =
    rw (
      ne_eqb t 1 (λ e. omega arith),
      ne_eqb t 2 (λ e. omega arith),
      ne_eqb t 3 (λ e. omega arith),
      ne_eqb t 4 (λ e. omega arith),
      ne_eqb t 5 (λ e. omega arith),
      ne_eqb t 6 (λ e. omega arith),
    )

-- the kind of a record, as it was told apart
pub kind-is : {o z : Option Kind} {k x : Kind} → o ≡ z → o ≡ Some k → k ≡ x → z ≡ Some x
kind-is e p q = cc

pub kind-spans : {o z : Option Kind} {k : Kind} {g x : Ranged} → o ≡ z → o ≡ Some k → k ≡ Spans g → g ≡ x
    → z ≡ Some (Spans x)
kind-spans e p q r = cc
