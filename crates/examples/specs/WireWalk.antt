-- Facts of def_wire's Packet: the walk over the blocks, refusals 6 and 9, and views.
-- RULES, "Packet and blocks", "Refusal numbers" and "Views, cursors and the dump".
use Rattle.std.specs.Prelude.{ℕ, ◌≡◌, List, [], ◌∷◌, replicate, Ok, Err}
use Rattle.def_refusals.specs.declared.Refusal.TheVariants.{TooShort, WrongVersion, BlockTooLong, NoBlock}
use Rattle.def_wire.specs.declared.Reading.TheVariants.{Standard, Crate}
use Rattle.def_wire.specs.Packet.{length_at, place_of, walk_from, count_of, locate, view_of}
use Rattle.def_wire.specs.Packet.{bytes_at, part_at, next_place, view_from, start_from}
use Rattle.examples.specs.Rows.{rows, packet, padded}

-- blocks of 4, 8 and 4 bytes, at 8, 12 and 20
abbrev pub three-blocks : List ℕ
three-blocks = packet (0x0a000000 ∷ 0x0b000001 ∷ 0x21222324 ∷ 0x0c000000 ∷ [])

-- a block of 4 bytes, then one that says 12 where 8 are left
abbrev pub too_long : List ℕ
too_long = packet (0x0a000000 ∷ 0x0b000002 ∷ 0 ∷ [])

-- a block of 4 bytes and 8 bytes of padding, which walked as a block have 8 bytes
abbrev pub walkable : List ℕ
walkable = padded (0x0a000000 ∷ 1 ∷ 8 ∷ [])

pub record Walk : Type 0 where
  -- L is (f + 1) · 4, from the block's third byte on; at most 262,144
  pub lengths :
      (length_at (rows (0x01020003 ∷ 0x0405ffff ∷ [])) 0 ≡ 16)
      × (length_at (rows (0x01020003 ∷ 0x0405ffff ∷ [])) 4 ≡ 262144)
      × (length_at (rows (0x01020100 ∷ [])) 0 ≡ 1028) × (length_at [] 0 ≡ 4)
  -- 8 bytes precede the first block
  pub places :
      (place_of three-blocks 0 ≡ 8) × (place_of three-blocks 1 ≡ 12) × (place_of three-blocks 2 ≡ 20)
      × (place_of three-blocks 3 ≡ 24)
  pub counts :
      (count_of Standard three-blocks ≡ Ok 3) × (count_of Crate three-blocks ≡ Ok 3)
      × (count_of Standard (packet []) ≡ Ok 0)
  -- reading has no limit of 31 blocks
  pub forty :
      (count_of Standard (packet (replicate 40 0x0a000000)) ≡ Ok 40)
      × (count_of Crate (packet (replicate 40 0x0a000000)) ≡ Ok 40)
  -- 6 with L and what is left for blocks: one word too long, as the first block and as the second
  pub six :
      (count_of Standard (packet (0x0a000001 ∷ [])) ≡ Err (BlockTooLong 8 4))
      × (count_of Crate (packet (0x0a000001 ∷ [])) ≡ Err (BlockTooLong 8 4))
      × (count_of Standard too_long ≡ Err (BlockTooLong 12 8))
      × (count_of Crate too_long ≡ Err (BlockTooLong 12 8))
  -- a block that just fits
  pub fits :
      (count_of Standard (packet (0x0a000001 ∷ 0 ∷ [])) ≡ Ok 1)
      × (count_of Crate (packet (0x0a000001 ∷ 0 ∷ [])) ≡ Ok 1)
  -- standard with P: left for blocks ends before the padding; the crate walks on
  pub six-at-padding :
      (count_of Standard (padded (1 ∷ 4 ∷ [])) ≡ Err (BlockTooLong 8 4))
      × (count_of Crate (padded (1 ∷ 4 ∷ [])) ≡ Ok 1)
  -- a packet that was padded by the rules: the crate reads its last word as a block of (N + 1) · 4 bytes
  pub padding-walked :
      (count_of Standard (padded (0x0a000000 ∷ 4 ∷ [])) ≡ Ok 1)
      × (count_of Crate (padded (0x0a000000 ∷ 4 ∷ [])) ≡ Err (BlockTooLong 20 4))
      × (count_of Standard walkable ≡ Ok 1) × (count_of Crate walkable ≡ Ok 2)
  -- 1 to 5 stand before 6
  pub header-first :
      (count_of Standard [] ≡ Err (TooShort 8 0)) × (count_of Crate (packet []) ≡ Err (TooShort 12 8))
      × (count_of Standard (rows (0x40cf0002 ∷ 1 ∷ 0x0a000001 ∷ [])) ≡ Err WrongVersion)
  -- the walk ends at the stop, and past it; without fuel it says what it has counted
  pub walk_ends :
      (walk_from three-blocks 24 9 24 5 ≡ Ok 5) × (walk_from three-blocks 20 9 24 5 ≡ Ok 5)
      × (walk_from three-blocks 24 0 8 5 ≡ Ok 5) × (walk_from three-blocks 24 2 8 5 ≡ Ok 7)
      × (walk_from three-blocks 16 9 12 5 ≡ Err (BlockTooLong 8 4))

pub record Located : Type 0 where
  -- the view: L bytes for the standard, everything left for the crate
  pub standard :
      (locate Standard three-blocks 0 ≡ Ok (8, 4)) × (locate Standard three-blocks 1 ≡ Ok (12, 8))
      × (locate Standard three-blocks 2 ≡ Ok (20, 4))
  pub crate :
      (locate Crate three-blocks 0 ≡ Ok (8, 16)) × (locate Crate three-blocks 1 ≡ Ok (12, 12))
      × (locate Crate three-blocks 2 ≡ Ok (20, 4))
  -- 9 with the count: the index after the last, and far past it
  pub nine :
      (locate Standard three-blocks 3 ≡ Err (NoBlock 3)) × (locate Crate three-blocks 3 ≡ Err (NoBlock 3))
      × (locate Standard three-blocks 70000 ≡ Err (NoBlock 3))
      × (locate Standard (packet []) 0 ≡ Err (NoBlock 0))
  -- the count is that of the asked reading; left runs to the packet's end, padding included
  pub own-count :
      (locate Standard walkable 0 ≡ Ok (8, 4)) × (locate Crate walkable 0 ≡ Ok (8, 12))
      × (locate Standard walkable 1 ≡ Err (NoBlock 1)) × (locate Crate walkable 1 ≡ Ok (12, 8))
      × (locate Crate walkable 2 ≡ Err (NoBlock 2))
  -- a 6 anywhere refuses every question, of earlier blocks too, and stands before 9; so do 1 to 5
  pub six-everywhere :
      (locate Standard too_long 0 ≡ Err (BlockTooLong 12 8))
      × (locate Crate too_long 0 ≡ Err (BlockTooLong 12 8))
      × (locate Standard too_long 7 ≡ Err (BlockTooLong 12 8))
      × (locate Crate (packet []) 7 ≡ Err (TooShort 12 8))

pub record Views : Type 0 where
  pub bytes :
      (view_of Standard three-blocks 1 ≡ Ok (rows (0x0b000001 ∷ 0x21222324 ∷ [])))
      × (view_of Crate three-blocks 1 ≡ Ok (rows (0x0b000001 ∷ 0x21222324 ∷ 0x0c000000 ∷ [])))
  pub refusal : (view_of Standard three-blocks 3 ≡ Err (NoBlock 3)) × (view_of Crate [] 0 ≡ Err (TooShort 12 0))
  -- that part of the caller's packet: its bytes, none where it is refused
  pub part_bytes :
      (bytes_at three-blocks (Ok (12, 4)) ≡ 0x0b ∷ 0 ∷ 0 ∷ 1 ∷ []) × (bytes_at three-blocks (Err (NoBlock 3)) ≡ [])
  -- and where it begins in memory: so many bytes behind the packet's first, or there where it is refused
  pub part-place : (part_at (5, 100) (Ok (12, 4)) ≡ (5, 112)) × (part_at (5, 100) (Err (NoBlock 3)) ≡ (5, 100))
  -- the next block's place; at the end and past it there is none
  pub next :
      (next_place three-blocks 8 ≡ 12) × (next_place three-blocks 12 ≡ 20) × (next_place three-blocks 20 ≡ 24)
      × (next_place three-blocks 23 ≡ 27) × (next_place three-blocks 24 ≡ 24) × (next_place three-blocks 30 ≡ 30)
  pub from-a-place :
      (view_from Standard three-blocks 12 ≡ rows (0x0b000001 ∷ 0x21222324 ∷ []))
      × (view_from Crate three-blocks 12 ≡ rows (0x0b000001 ∷ 0x21222324 ∷ 0x0c000000 ∷ []))
  -- no more than there is; empty at the end and past it
  pub cut-at-the-end :
      (view_from Standard too_long 12 ≡ rows (0x0b000002 ∷ 0 ∷ [])) × (view_from Standard three-blocks 24 ≡ [])
      × (view_from Crate three-blocks 24 ≡ []) × (view_from Standard three-blocks 30 ≡ [])
      × (view_from Crate three-blocks 30 ≡ [])
  -- where it begins in memory; past the end, the packet's end
  pub place-in-memory :
      (start_from (5, 100) three-blocks 12 ≡ (5, 112)) × (start_from (5, 100) three-blocks 24 ≡ (5, 124))
      × (start_from (5, 100) three-blocks 30 ≡ (5, 124))
