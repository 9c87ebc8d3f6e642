-- Types and their kinds. Assumes nothing.
--     kind-type      a type that has a kind is that kind's number
use Rattle.std.specs.Prelude.{Option, Some, None}
use Prim.Native.Nat.{ℕ}
use mathlib.Core.Path.{◌≡◌, refl}
use mathlib.Core.Bool.{false}
use lib.Dec.{eqb}
use borrow.Author.Tests.{eqb-true}
use Rattle.laws.proofs.Tests.{either}
use Rattle.def_wire.specs.declared.Rle.{Rle}
use Rattle.def_wire.specs.declared.Rle.TheVariants.{Loss, Duplicate}
use Rattle.def_wire.specs.declared.Kind.{Kind}
use Rattle.def_wire.specs.Block.{rle_of, ranged_of, kind_of, kind_type, rle_type, receipt_type}

-- what a kind says of the type
abbrev Back : ℕ → Option Kind → Type 0
Back t (Some k) = t ≡ kind_type k
Back t None = t ≡ t

kind-back : (t : ℕ) → Back t (kind_of t)
unfolding kind_of ranged_of rle_of
kind-back t =
    either (eqb t 1) (λ y. rw y (eqb-true _ _ y))
    (λ n. rw n
    (either (eqb t 2) (λ y. rw y (eqb-true _ _ y))
    (λ n. rw n
    (either (eqb t 3) (λ y. rw y (eqb-true _ _ y))
    (λ n. rw n
    (either (eqb t 4) (λ y. rw y (eqb-true _ _ y))
    (λ n. rw n
    (either (eqb t 5) (λ y. rw y (eqb-true _ _ y))
    (λ n. rw n
    (either (eqb t 6) (λ y. rw y (eqb-true _ _ y))
    (λ n. rw n refl)))))))))))

pub kind-type : (t : ℕ) (k : Kind) → kind_of t ≡ Some k → t ≡ kind_type k
kind-type t k e = rw e at (kind-back t)

pub rle-not-times : (a : Rle) → eqb (rle_type a) receipt_type ≡ false
rle-not-times Loss = refl
rle-not-times Duplicate = refl
