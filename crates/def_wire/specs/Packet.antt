-- The packet: header, sender SSRC, blocks (RFC 3611, 2; RULES, "Packet and blocks" and refusals 1 to 6 and 9).
--     header_of      where the blocks end, or refusals 1 to 5 in their order
--     place_of       where block k begins
--     count_of       how many blocks there are, or refusals 1 to 6
--     locate        where block k's view lies, or refusals 1 to 6 and 9
--     view_of        the view itself
--     next_place, view_from     the next block's place and the view, from a place
use Rattle.std.specs.Prelude.{Ok, Err}
use Rattle.std.specs.Prelude.{ℕ, zero, suc, ◌+◌, ◌*◌, ◌-◌, ◌/◌, ◌%◌, min, Bool, false, cond, not, ◌||◌, List, [], length, take, drop, ltb, leb, eqb}
use Rattle.def_refusals.specs.declared.Refusal.TheVariants.{TooShort, WrongVersion, WrongPacketType, WrongLength}
use Rattle.def_refusals.specs.declared.Refusal.TheVariants.{BadPadding, BlockTooLong, NoBlock}
use Rattle.def_refusals.specs.Answers.{Or}
use Rattle.def_wire.specs.declared.Reading.{Reading}
use Rattle.def_wire.specs.declared.Reading.TheVariants.{Standard, Crate}
use Rattle.def_wire.specs.Bytes.{byte_at, be16, be32}

-- byte 0: two bits of version, bit P, five unused bits that nobody looks at
abbrev pub version_of : List ℕ → ℕ
version_of s = byte_at s 0 / 64

abbrev pub is_padded : List ℕ → Bool
is_padded s = eqb (byte_at s 0 / 32 % 2) 1

-- bytes 2 and 3: the length in 32-bit words less one
abbrev pub announced_of : List ℕ → ℕ
announced_of s = (be16 s 2 + 1) * 4

-- the last byte counts the padding, itself included
abbrev pub padding_of : List ℕ → ℕ
padding_of s = byte_at s (length s - 1)

-- 0, no multiple of 4, or over the length less 8
abbrev pub is_bad_padding : ℕ → ℕ → Bool
is_bad_padding n len = eqb n 0 || (not (eqb (n % 4) 0) || ltb (len - 8) n)

abbrev pub ssrc_of : List ℕ → ℕ
ssrc_of s = be32 s 4

-- the fewest bytes that a packet has
abbrev pub least_of : Reading → ℕ
least_of Standard = 8
least_of Crate = 12

-- where the blocks end: the standard takes the padding off, the crate walks it as blocks
abbrev pub stop_of : Reading → List ℕ → ℕ
stop_of Standard s = cond (is_padded s) (length s - padding_of s) (length s)
stop_of Crate s = length s

-- where the blocks end, or the first of the refusals 1 to 5 that applies
unfoldable pub header_of : Reading → List ℕ → Or ℕ
header_of r s =
    cond (ltb (length s) (least_of r)) (Err (TooShort (least_of r) (length s)))
    (cond (not (eqb (version_of s) 2)) (Err WrongVersion)
    (cond (not (eqb (byte_at s 1) 207)) (Err WrongPacketType)
    (cond (not (eqb (announced_of s) (length s))) (Err (WrongLength (announced_of s) (length s)))
    (cond (cond (is_padded s) (is_bad_padding (padding_of s) (length s)) false) (Err (BadPadding (padding_of s)))
    (Ok (stop_of r s))))))

-- the length L of the block at a place (RFC 3611, 3: the length in 32-bit words less one)
abbrev pub length_at : List ℕ → ℕ → ℕ
length_at s at = (be16 s (at + 2) + 1) * 4

-- where block k begins: 8 bytes precede the first, and each next one begins where the one before it ends
unfoldable pub place_of : List ℕ → ℕ → ℕ
place_of s zero = 8
place_of s (suc k) = place_of s k + length_at s (place_of s k)

-- how many blocks there are up to stop, of which n end at the place; or refusal 6. Blocks are not empty, so fuel of
-- the packet's length is enough
unfoldable pub walk_from : List ℕ → ℕ → ℕ → ℕ → ℕ → Or ℕ
walk_from s stop zero at n = Ok n
walk_from s stop (suc fuel) at n =
    cond (leb stop at) (Ok n)
    (cond (ltb (stop - at) (length_at s at)) (Err (BlockTooLong (length_at s at) (stop - at)))
    (walk_from s stop fuel (at + length_at s at) (n + 1)))

-- the walk after the header checks
abbrev pub walk_to : List ℕ → Or ℕ → Or ℕ
walk_to s (Ok stop) = walk_from s stop (length s) 8 0
walk_to s (Err x) = Err x

-- how many blocks the packet has in a reading, or the first of the refusals 1 to 6 that applies
unfoldable pub count_of : Reading → List ℕ → Or ℕ
count_of r s = walk_to s (header_of r s)

-- how many bytes a block shows: its own L in the standard, everything left in the crate
abbrev pub size_at : Reading → List ℕ → ℕ → ℕ
size_at Standard s at = length_at s at
size_at Crate s at = length s - at

abbrev pub pick_block : Reading → List ℕ → ℕ → Or ℕ → Or (ℕ × ℕ)
pick_block r s k (Ok n) = cond (ltb k n) (Ok (place_of s k, size_at r s (place_of s k))) (Err (NoBlock n))
pick_block r s k (Err x) = Err x

-- where block k's view lies, or the first of the refusals 1 to 6 and 9 that applies
unfoldable pub locate : Reading → List ℕ → ℕ → Or (ℕ × ℕ)
locate r s k = pick_block r s k (count_of r s)

-- n bytes of the packet from a place on
abbrev pub part : List ℕ → ℕ → ℕ → List ℕ
part s at n = take n (drop at s)

abbrev pub view_at : List ℕ → Or (ℕ × ℕ) → Or (List ℕ)
view_at s (Ok (at, n)) = Ok (part s at n)
view_at s (Err x) = Err x

-- block k's view
abbrev pub view_of : Reading → List ℕ → ℕ → Or (List ℕ)
view_of r s k = view_at s (locate r s k)

-- that view as part of the caller's own packet: its bytes, none where it is refused, and where it begins in memory. A
-- pointer is a block of
-- memory and an offset in it
abbrev pub bytes_at : List ℕ → Or (ℕ × ℕ) → List ℕ
bytes_at s (Ok (at, n)) = part s at n
bytes_at s (Err x) = []

abbrev pub part_at : ℕ × ℕ → Or (ℕ × ℕ) → ℕ × ℕ
part_at ptr (Ok (at, n)) = (ptr.0, ptr.1 + at)
part_at ptr (Err x) = ptr

-- a packet at a place in it, as the reader holds it. Any place serves: past the end the view is empty, and there is
-- no next block
abbrev pub next_place : List ℕ → ℕ → ℕ
next_place s at = cond (ltb at (length s)) (at + length_at s at) at

abbrev pub view_from : Reading → List ℕ → ℕ → List ℕ
view_from r s at = part s at (size_at r s at)

-- where that view begins in memory; past the end, the packet's end
abbrev pub start_from : ℕ × ℕ → List ℕ → ℕ → ℕ × ℕ
start_from ptr s at = (ptr.0, ptr.1 + min at (length s))
