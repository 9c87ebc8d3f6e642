-- What is asked of a block of types 1 and 2 before its words are looked at, by computation. Assumes nothing.
use Rattle.std.specs.Prelude.{Ok, Err}
use mathlib.Core.Path.{◌≡◌, refl}
use mathlib.Core.List.{List, [], ◌∷◌}
use lib.ListN.{take}
use Prim.Native.Nat.{ℕ}
use Rattle.def_refusals.specs.declared.Refusal.TheVariants.{OtherType, BadBlockLength}
use Rattle.def_wire.specs.declared.Reading.TheVariants.{Standard}
use Rattle.def_wire.specs.declared.Rle.TheVariants.{Loss, Duplicate}
use Rattle.def_wire.specs.declared.Ranged.TheVariants.{Chunks}
use Rattle.def_wire.specs.declared.Kind.TheVariants.{Spans}
use Rattle.def_wire.specs.Bytes.{pair_up}
use Rattle.def_wire.specs.Block.{standard_rule, has, clear_rule, fitness, check_of}
use Rattle.block.specs.Lengths.{length_check}

-- sixteen bytes of type 2, of which the words are 16385 and a run of no length
abbrev lost : List ℕ
lost = 2 ∷ 0 ∷ 0 ∷ 3 ∷ 0 ∷ 0 ∷ 0 ∷ 7 ∷ 0 ∷ 10 ∷ 0 ∷ 14 ∷ 64 ∷ 1 ∷ 64 ∷ 0 ∷ []

-- 10 first, of a short block too; then 12 bytes are enough and 11 are not; the words are not looked at
of-lengths :
    (length_check Loss lost ≡ Err (OtherType 2)) × (length_check Loss (take 11 lost) ≡ Err (OtherType 2))
    × (length_check Duplicate (take 11 lost) ≡ Err (BadBlockLength 12 11))
    × (length_check Duplicate (take 12 lost) ≡ Ok tt) × (length_check Duplicate lost ≡ Ok tt)
    × (length_check Loss [] ≡ Err (OtherType 0))
unfolding length_check standard_rule
of-lengths = (refl, refl, refl, refl, refl, refl)

-- the whole check looks at them
of_words : check_of Standard (Spans (Chunks Duplicate)) lost ≡ Err (BadBlockLength 12 16)
unfolding check_of fitness standard_rule clear_rule has pair_up
of_words = refl
