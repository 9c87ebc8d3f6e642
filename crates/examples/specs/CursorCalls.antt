-- Facts of def_cursor: a call on a block's view, on a packet and an index, and by a number. The order is 1 to 6, 9,
-- 10, 7, 16, 11.
-- RULES, "Views, cursors and the dump" and "Refusal numbers".
use Rattle.std.specs.Prelude.{ℕ, ◌≡◌, List, [], ◌∷◌, Ok, Err}
use Rattle.def_cursor.specs.declared.Stretch.{Stretch}
use Rattle.def_refusals.specs.Answers.{Or}
use Rattle.def_refusals.specs.declared.Refusal.TheVariants.{BlockTooLong, NoBlock, OtherType, BadBlockLength}
use Rattle.def_refusals.specs.declared.Refusal.TheVariants.{NoPlace, NoRoom}
use Rattle.def_wire.specs.declared.Rle.TheVariants.{Loss, Duplicate}
use Rattle.def_cursor.specs.Cursor.{start, advance_fault, advance_of, stretch_filled, Stretched, StretchedIn, StretchedBy}
use Rattle.examples.specs.Cursor.{stretch, place}
use Rattle.examples.specs.Rows.{rows, packet}

-- from 10 to 15, words 16386, 0, 2, 16385: six steps, and 10, 11 and 14 are listed
abbrev pub a-loss : List ℕ
a-loss = rows (0x01000004 ∷ 7 ∷ 0x000a000f ∷ 0x40020000 ∷ 0x00024001 ∷ [])

-- from 10 to 15 by twos, four ones: 10, 12, 14 are listed
abbrev pub a-duplicate : List ℕ
a-duplicate = rows (0x02010003 ∷ 7 ∷ 0x000a000f ∷ 0x40024002 ∷ [])

abbrev pub short-loss : List ℕ
short-loss = rows (0x01000001 ∷ 7 ∷ [])

-- words 16386, 0, 2 and a run of ones of no length
abbrev pub lost-loss : List ℕ
lost-loss = rows (0x01000004 ∷ 7 ∷ 0x000a000f ∷ 0x40020000 ∷ 0x00024000 ∷ [])

-- from 5 to 20 by fours, words 16386, 0, 16386, 0: six steps and four ones, and 8, 12 and 16 are listed
abbrev pub off-loss : List ℕ
off-loss = rows (0x01020004 ∷ 7 ∷ 0x00050014 ∷ 0x40020000 ∷ 0x40020000 ∷ [])

-- from 5 to 8 by fours: two steps, and nothing is listed; to 9, and 8 is
abbrev pub empty-duplicate : List ℕ
empty-duplicate = rows (0x02020003 ∷ 7 ∷ 0x00050008 ∷ 0x40010000 ∷ [])

abbrev pub one-duplicate : List ℕ
one-duplicate = rows (0x02020003 ∷ 7 ∷ 0x00050009 ∷ 0x40010000 ∷ [])

abbrev pub old : List ℕ
old = 1 ∷ 2 ∷ 3 ∷ 4 ∷ 5 ∷ 6 ∷ 7 ∷ []

pub record OfAView : Type 0 where
  -- 10, then 7, then 16, then 11
  pub order :
      (advance_fault Duplicate short-loss (place 9 9 9) 3 2 ≡ Err (OtherType 1))
      × (advance_fault Loss short-loss (place 9 9 9) 3 2 ≡ Err (BadBlockLength 12 8))
      × (advance_fault Loss a-loss (place 9 9 9) 3 2 ≡ Err NoPlace)
      × (advance_fault Loss a-loss start 3 2 ≡ Err (NoRoom 3 2))
      × (advance_fault Loss a-loss start 3 3 ≡ Ok tt)
  -- 7 by a run of no length: behind 10, before 16 and 11, for a budget of 0 and at the end too
  pub lost-run :
      (advance_fault Duplicate lost-loss (place 9 9 9) 3 2 ≡ Err (OtherType 1))
      × (advance_fault Loss lost-loss (place 9 9 9) 3 2 ≡ Err (BadBlockLength 12 20))
      × (advance_fault Loss lost-loss start 3 2 ≡ Err (BadBlockLength 12 20))
      × (advance_fault Loss lost-loss start 0 0 ≡ Err (BadBlockLength 12 20))
      × (advance_of Loss lost-loss start 1 7 ≡ Err (BadBlockLength 12 20))
      × (advance_of Loss lost-loss (place 4 0 5) 1 7 ≡ Err (BadBlockLength 12 20))
      × (stretch_filled Loss lost-loss start 2 old ≡ old)
  -- the last word counts: the end is behind word 3
  pub all_words :
      (advance_fault Loss a-loss (place 4 0 0) 0 0 ≡ Ok tt) × (advance_fault Loss a-loss (place 3 0 0) 0 0 ≡ Ok tt)
      × (advance_fault Loss a-loss (place 5 0 0) 0 0 ≡ Err NoPlace)
  pub moved :
      (advance_of Loss a-loss start 2 2 ≡ Ok (stretch 1 0 2 2 2))
      × (advance_of Loss a-loss start 9 9 ≡ Ok (stretch 4 0 5 6 3))
      × (advance_of Loss a-loss (place 1 0 2) 3 3 ≡ Ok (stretch 3 0 4 3 0))
      × (advance_of Duplicate a-duplicate start 4 4 ≡ Ok (stretch 2 0 4 4 3))
  -- budget 0, the end cursor, and a block without words
  pub none-taken :
      (advance_of Loss a-loss (place 2 1 3) 0 0 ≡ Ok (stretch 2 1 3 0 0))
      × (advance_of Loss a-loss (place 4 0 65536) 2 2 ≡ Ok (stretch 4 0 65536 0 0))
      × (advance_of Loss (rows (0x01000002 ∷ 7 ∷ 0x000a000f ∷ [])) start 2 2 ≡ Ok (stretch 0 0 0 0 0))
  pub stuck :
      (advance_of Loss a-loss (place 0 2 0) 0 0 ≡ Err NoPlace)
      × (advance_of Duplicate a-loss start 0 0 ≡ Err (OtherType 1))
  -- the numbers in front, the rest as it was; refused: all as it was
  pub filled :
      (stretch_filled Loss a-loss start 6 old ≡ 10 ∷ 11 ∷ 14 ∷ 4 ∷ 5 ∷ 6 ∷ 7 ∷ [])
      × (stretch_filled Loss a-loss start 1 old ≡ 10 ∷ 2 ∷ 3 ∷ 4 ∷ 5 ∷ 6 ∷ 7 ∷ [])
      × (stretch_filled Duplicate a-duplicate start 4 old ≡ 10 ∷ 12 ∷ 14 ∷ 4 ∷ 5 ∷ 6 ∷ 7 ∷ [])
      × (stretch_filled Loss a-loss start 7 old ≡ 10 ∷ 11 ∷ 14 ∷ 4 ∷ 5 ∷ 6 ∷ 7 ∷ [])
      × (stretch_filled Loss a-loss start 8 old ≡ old) × (stretch_filled Loss a-loss (place 0 2 0) 1 old ≡ old)
  -- begin off the grid: the first number on it and the next, the last inside, and the position past it
  pub off-the-grid :
      (advance_of Loss off-loss start 2 2 ≡ Ok (stretch 1 0 2 2 2))
      × (advance_of Loss off-loss start 9 9 ≡ Ok (stretch 4 0 4 6 3))
      × (advance_of Loss off-loss (place 2 0 2) 1 1 ≡ Ok (stretch 2 1 3 1 1))
      × (advance_of Loss off-loss (place 2 1 3) 1 1 ≡ Ok (stretch 3 0 4 1 0))
      × (stretch_filled Loss off-loss start 2 old ≡ 8 ∷ 12 ∷ 3 ∷ 4 ∷ 5 ∷ 6 ∷ 7 ∷ [])
      × (stretch_filled Loss off-loss start 7 old ≡ 8 ∷ 12 ∷ 16 ∷ 4 ∷ 5 ∷ 6 ∷ 7 ∷ [])
      × (stretch_filled Loss off-loss (place 2 0 2) 2 old ≡ 16 ∷ 2 ∷ 3 ∷ 4 ∷ 5 ∷ 6 ∷ 7 ∷ [])
  -- end comes before it, and just behind it: steps are taken as ever
  pub none-on-the-grid :
      (advance_of Duplicate empty-duplicate start 2 2 ≡ Ok (stretch 2 0 1 2 0))
      × (stretch_filled Duplicate empty-duplicate start 2 old ≡ old)
      × (advance_of Duplicate one-duplicate start 2 2 ≡ Ok (stretch 2 0 1 2 1))
      × (stretch_filled Duplicate one-duplicate start 2 old ≡ 8 ∷ 2 ∷ 3 ∷ 4 ∷ 5 ∷ 6 ∷ 7 ∷ [])
  -- the contract: the lent list's length is the room
  pub contract :
      Stretched Loss a-loss (place 0 1 1) 2 (8 ∷ 9 ∷ []) (Ok (stretch 2 0 2 2 1)) (11 ∷ 9 ∷ [])
      × Stretched Loss a-loss start 3 (8 ∷ 9 ∷ []) (Err (NoRoom 3 2)) (8 ∷ 9 ∷ [])
      × Stretched Duplicate a-loss start 1 (8 ∷ 9 ∷ []) (Err (OtherType 1)) (8 ∷ 9 ∷ [])
      × Stretched Loss off-loss (place 0 1 1) 2 (8 ∷ 9 ∷ []) (Ok (stretch 2 0 2 2 1)) (12 ∷ 9 ∷ [])
  -- and no other answer, nor other contents, satisfies it
  pub no_other :
      (r : Or Stretch) (out : List ℕ) → Stretched Loss a-loss (place 0 1 1) 2 (8 ∷ 9 ∷ []) r out
      → (r ≡ Ok (stretch 2 0 2 2 1)) × (out ≡ 11 ∷ 9 ∷ [])

-- an empty block of type 9, then types 1 and 2, then a type 1 block that is too short
abbrev pub four-blocks : List ℕ
four-blocks =
    packet
    (0x09000000 ∷ 0x01000004 ∷ 7 ∷ 0x000a000f ∷ 0x40020000 ∷ 0x00024001 ∷ 0x02010003 ∷ 7 ∷ 0x000a000f ∷ 0x40024002
    ∷ 0x01000001 ∷ 7 ∷ [])

-- of a packet and an index
pub record OfAPacket : Type 0 where
  -- the block's own words: the cursor ends with them, and what follows in the packet is none of it
  pub moved :
      StretchedIn four-blocks 1 Loss start 6 old (Ok (stretch 4 0 5 6 3)) (10 ∷ 11 ∷ 14 ∷ 4 ∷ 5 ∷ 6 ∷ 7 ∷ [])
      × StretchedIn four-blocks 2 Duplicate start 7 old (Ok (stretch 2 0 4 4 3)) (10 ∷ 12 ∷ 14 ∷ 4 ∷ 5 ∷ 6 ∷ 7 ∷ [])
  -- 6 before 9, 9 before 10, 10 before 7, 7 before 16, 16 before 11; the list stays as it was
  pub order :
      StretchedIn (packet (0x01000001 ∷ [])) 4 Loss (place 9 9 9) 9 old (Err (BlockTooLong 8 4)) old
      × StretchedIn four-blocks 4 Loss (place 9 9 9) 9 old (Err (NoBlock 4)) old
      × StretchedIn four-blocks 3 Duplicate (place 9 9 9) 9 old (Err (OtherType 1)) old
      × StretchedIn four-blocks 3 Loss (place 9 9 9) 9 old (Err (BadBlockLength 12 8)) old
      × StretchedIn four-blocks 1 Loss (place 9 9 9) 9 old (Err NoPlace) old
      × StretchedIn four-blocks 1 Loss start 9 old (Err (NoRoom 9 7)) old
  pub no_other :
      (r : Or Stretch) (out : List ℕ) → StretchedIn four-blocks 1 Loss (place 0 1 1) 2 (8 ∷ 9 ∷ []) r out
      → (r ≡ Ok (stretch 2 0 2 2 1)) × (out ≡ 11 ∷ 9 ∷ [])

-- an empty block of type 9, then a block with a run of no length, then one without
abbrev pub lost-second : List ℕ
lost-second =
    packet
    (0x09000000 ∷ 0x02000003 ∷ 7 ∷ 0x000a000f ∷ 0x40024000 ∷ 0x02010003 ∷ 7 ∷ 0x000a000f ∷ 0x40024002 ∷ [])

pub record LostRun : Type 0 where
  pub refusal :
      StretchedIn lost-second 1 Duplicate start 1 old (Err (BadBlockLength 12 16)) old
      × StretchedIn lost-second 1 Duplicate (place 9 9 9) 9 old (Err (BadBlockLength 12 16)) old
      × StretchedIn lost-second 1 Duplicate start 9 old (Err (BadBlockLength 12 16)) old
      × StretchedBy lost-second 1 2 start 1 old (Err (BadBlockLength 12 16)) old
      × StretchedBy lost-second 1 2 start 9 [] (Err (BadBlockLength 12 16)) []
  pub after-ten :
      StretchedIn lost-second 1 Loss start 1 old (Err (OtherType 2)) old
      × StretchedBy lost-second 1 1 start 1 old (Err (OtherType 2)) old
      × StretchedBy lost-second 1 9 start 1 old (Err (OtherType 2)) old
  pub others :
      StretchedIn lost-second 2 Duplicate start 7 old (Ok (stretch 2 0 4 4 3)) (10 ∷ 12 ∷ 14 ∷ 4 ∷ 5 ∷ 6 ∷ 7 ∷ [])

-- the asked type by a number: 1 and 2 are served; any other is 10 with the block's own type, after 9 and before 7
pub record ByNumber : Type 0 where
  pub served :
      StretchedBy four-blocks 1 1 start 6 old (Ok (stretch 4 0 5 6 3)) (10 ∷ 11 ∷ 14 ∷ 4 ∷ 5 ∷ 6 ∷ 7 ∷ [])
      × StretchedBy four-blocks 2 2 start 7 old (Ok (stretch 2 0 4 4 3)) (10 ∷ 12 ∷ 14 ∷ 4 ∷ 5 ∷ 6 ∷ 7 ∷ [])
  pub other :
      StretchedBy four-blocks 1 2 start 6 old (Err (OtherType 1)) old
      × StretchedBy four-blocks 2 1 start 6 old (Err (OtherType 2)) old
  -- also where the block is of that type
  pub not-served :
      StretchedBy four-blocks 1 3 start 6 old (Err (OtherType 1)) old
      × StretchedBy four-blocks 0 9 start 6 old (Err (OtherType 9)) old
      × StretchedBy four-blocks 1 257 start 6 old (Err (OtherType 1)) old
  pub order :
      StretchedBy four-blocks 4 9 (place 9 9 9) 9 old (Err (NoBlock 4)) old
      × StretchedBy four-blocks 3 9 (place 9 9 9) 9 old (Err (OtherType 1)) old
      × StretchedBy four-blocks 3 1 (place 9 9 9) 9 old (Err (BadBlockLength 12 8)) old
      × StretchedBy four-blocks 1 1 (place 9 9 9) 9 old (Err NoPlace) old
      × StretchedBy four-blocks 1 1 start 9 old (Err (NoRoom 9 7)) old
  pub no_other :
      (r : Or Stretch) (out : List ℕ) → StretchedBy four-blocks 1 1 (place 0 1 1) 2 (8 ∷ 9 ∷ []) r out
      → (r ≡ Ok (stretch 2 0 2 2 1)) × (out ≡ 11 ∷ 9 ∷ [])
