-- The room that is lent is the length of the list that is lent.
use Prim.Native.Nat.{ℕ, ◌-◌, min}
use mathlib.Core.Path.{◌≡◌}
use mathlib.Core.List.{List}
use native.Mathlib.Omega.{arith}
use lib.ListN.{length, take, length-take}
use Rattle.def_text.specs.Buffer.{Added}

-- a text that goes by the room
pub in-room : {l l' : List ℕ} {at at' n room : ℕ} (text : ℕ → List ℕ) → Added l at (text n) l' at' → n ≡ room
    → Added l at (text room) l' at'
in-room text p e = rw (← e) p

-- n items from the first on, of a list that has the most room that is lent
pub part_room : (l : List ℕ) (n room most : ℕ) → length l ≡ most → n ≡ min room most
    → length (take (n - 0) l) ≡ min room most
part_room l n room most h e = rw (length-take (n - 0) l) (omega arith)
