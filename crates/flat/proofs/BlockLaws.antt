-- What stands at a place of a packet, and a packet's count with its sender, laid out as numbers. Assumes nothing.
use Prim.Native.Nat.{ℕ}
use mathlib.Core.Path.{◌≡◌}
use mathlib.Core.List.{List}
use lib.ListN.{length}
use Rattle.def_wire.specs.declared.Reading.{Reading}
use Rattle.def_wire.specs.Packet.{next_place, view_from}
use Rattle.def_wire.specs.Block.{type_of, specific_of, block_length}
use Rattle.flat.specs.declared.FlatBlock.{FlatBlock}
use Rattle.flat.specs.Flat.{flat_block}

abbrev pub block_row : ℕ → ℕ → ℕ → ℕ → ℕ → FlatBlock
block_row n size l t b = record { next = n; size = size; length = l; kind = t; specific = b }

-- from the view v at a place, and what was taken of it
pub block-laid : (r : Reading) (s : List ℕ) (at : ℕ) (v : List ℕ) → v ≡ view_from r s at → (n l t b : ℕ)
    → n ≡ next_place s at → l ≡ block_length v → t ≡ type_of v → b ≡ specific_of v
    → block_row n (length v) l t b ≡ flat_block r s at
unfolding flat_block
block-laid r s at v e n l t b en el et eb = rw en (rw el (rw et (rw eb (rw e))))
