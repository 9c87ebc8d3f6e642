-- The kind of a type number, where a match has told it.
use Rattle.std.specs.Prelude.{Option, Some, None}
use Prim.Native.Nat.{ℕ}
use mathlib.Core.Path.{◌≡◌}
use Rattle.def_wire.specs.declared.Kind.{Kind}
use Rattle.def_wire.specs.Block.{kind_of}

module _ {o : Option Kind} {t type : ℕ} (e : o ≡ kind_of t) (s : t ≡ type) where
  pub kind-is : {k l : Kind} → o ≡ Some k → k ≡ l → kind_of type ≡ Some l
  kind-is p q = cc

  pub kind-none : o ≡ None → kind_of type ≡ None
  kind-none p = cc
