-- The laws of a packet at a place: the length L by the block's header bytes, the view, the next place.
use Prim.Native.Nat.{ℕ, ◌+◌, ◌*◌, ◌-◌, ◌≤◌, ◌<◌}
use mathlib.Core.Path.{◌≡◌, sym, ◌∙◌}
use mathlib.Core.List.{List}
use native.Mathlib.Omega.{arith}
use lib.ListN.{length, get_or, take, drop, length-drop}
use lib.Seq.{take_all}
use borrow.Author.Tests.{lt-ltb, le-ltb}
use Rattle.def_wire.specs.declared.Reading.{Reading}
use Rattle.def_wire.specs.declared.Reading.TheVariants.{Standard, Crate}
use Rattle.def_wire.specs.Packet.{length_at, next_place, view_from}
use Rattle.def_wire.specs.Block.{header_data}
use Rattle.utils.proofs.BytesLaws.{be16-part}

-- by the header bytes h of the four bytes v that begin at the place
pub length-header : (s : List ℕ) (at : ℕ) (v h : List ℕ) (l : ℕ) → v ≡ take 4 (drop at s) → h ≡ header_data v
    → l ≡ (get_or h 2 0 * 256 + get_or h 3 0 + 1) * 4 → l ≡ length_at s at
length-header s at v h l e f g = rw (g, f, e) (rw (be16-part at 4 s 2 (omega arith)))

-- the view of each reading
pub view-standard : (r : Reading) (s : List ℕ) (at l : ℕ) → r ≡ Standard → l ≡ length_at s at
    → take l (drop at s) ≡ view_from r s at
view-standard r s at l e k = rw (e, k)

pub view-crate : (r : Reading) (s : List ℕ) (at n : ℕ) → r ≡ Crate → n ≡ length s → take n (drop at s) ≡ view_from r s at
view-crate r s at n e k =
    let a : length (drop at s) ≤ n = omega (arith, k, length-drop at s) in
    let b : length (drop at s) ≤ length s - at = omega (arith, length-drop at s) in
    rw e (take_all n (drop at s) a ∙ sym (take_all (length s - at) (drop at s) b))

-- the next place
pub next-within : (s : List ℕ) (at l : ℕ) → at < length s → l ≡ length_at s at → at + l ≡ next_place s at
next-within s at l h k = rw (k, lt-ltb _ _ h)

pub next_past : (s : List ℕ) (at : ℕ) → length s ≤ at → at ≡ next_place s at
next_past s at h = rw (le-ltb _ _ h)
