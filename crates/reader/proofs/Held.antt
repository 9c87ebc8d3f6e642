-- What contracts say of a reader and a view.
--     Stands, Shows    a reader that holds a slice at a place; a view at a place of a slice
use Prim.Native.Nat.{ℕ}
use mathlib.Core.Path.{◌≡◌}
use mathlib.Core.List.{List}
use denote.Ref.{Bor}
use Rattle.def_wire.specs.declared.Reading.{Reading}
use Rattle.def_wire.specs.Packet.{view_from, start_from}
use Rattle.reader.specs.declared.Reader.{Reader}

abbrev pub Stands : Bor (List ℕ) → ℕ → Reader → Type 0
Stands s n r = (r.packet ≡ s) × (r.at ≡ n)

abbrev pub Shows : Reading → Bor (List ℕ) → ℕ → Bor (List ℕ) → Type 0
Shows g s n v = (v.now ≡ view_from g s.now n) × (v.ref_ptr ≡ start_from s.ref_ptr s.now n)
