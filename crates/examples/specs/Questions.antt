-- Facts of def_questions: each question in both readings, of a view, and of a packet and an index.
-- The order is 1 to 6, 9, 10, 7, 8, 11.
-- RULES, "Refusal numbers", "Standard reading" and "Crate reading".
use Rattle.std.specs.Prelude.{ℕ, ◌≡◌, List, [], ◌∷◌, Ok, Err}
use Rattle.def_refusals.specs.declared.Refusal.TheVariants.{TooShort, BlockTooLong, NoBlock, OtherType}
use Rattle.def_refusals.specs.declared.Refusal.TheVariants.{BadBlockLength, NoFields, NoRoom}
use Rattle.def_refusals.specs.Answers.{Or, Listed}
use Rattle.def_wire.specs.declared.Reading.TheVariants.{Standard, Crate}
use Rattle.def_wire.specs.declared.Rle.TheVariants.{Loss, Duplicate}
use Rattle.def_wire.specs.declared.Ranged.TheVariants.{Chunks, Times}
use Rattle.def_wire.specs.Packet.{count_of, view_of}
use Rattle.def_standard.specs.declared.Receipt.{Receipt}
use Rattle.def_standard.specs.declared.Echo.{Echo}
use Rattle.def_questions.specs.Questions.{words_shown, numbers_shown, pairs_shown, entries_shown}
use Rattle.def_questions.specs.Questions.{ListedPairs, ListedEntries}
use Rattle.def_questions.specs.Packets.{words_asked, numbers_asked, pairs_asked, entries_asked, fields_asked, time_asked}
use Rattle.def_questions.specs.ByNumber.{words_by, numbers_by, fields_by}
use Rattle.examples.specs.Rows.{fields, rows, packet}
use Rattle.examples.specs.Standard.{echo, pair}

-- types 1 and 2 from 10 to 14 with words 16386 and 16387, and one that is too short
abbrev pub a-loss : List ℕ
a-loss = rows (0x01000003 ∷ 7 ∷ 0x000a000e ∷ 0x40024003 ∷ [])

abbrev pub a-duplicate : List ℕ
a-duplicate = rows (0x02000003 ∷ 7 ∷ 0x000a000e ∷ 0x40024003 ∷ [])

abbrev pub short-loss : List ℕ
short-loss = rows (0x01000001 ∷ 7 ∷ [])

-- types 1 and 2 with a run of ones of no length: words 16386, 16384, 16385, 0, and 16384, 16386
abbrev pub lost-loss : List ℕ
lost-loss = rows (0x01000004 ∷ 7 ∷ 0x000a000e ∷ 0x40024000 ∷ 0x40010000 ∷ [])

abbrev pub lost-duplicate : List ℕ
lost-duplicate = rows (0x02000003 ∷ 7 ∷ 0x000a000e ∷ 0x40004002 ∷ [])

-- type 3 from 5 to 9 with one time, type 5 with one entry
abbrev pub a-receipt : List ℕ
a-receipt = rows (0x03000003 ∷ 7 ∷ 0x00050009 ∷ 100 ∷ [])

abbrev pub an-echo : List ℕ
an-echo = rows (0x05000003 ∷ 1 ∷ 2 ∷ 3 ∷ [])

-- types 1 and 2 from 5 to 20 by fours, and types 1 and 3 to 8
abbrev pub off-loss : List ℕ
off-loss = rows (0x01020003 ∷ 7 ∷ 0x00050014 ∷ 0x40040000 ∷ [])

abbrev pub off-duplicate : List ℕ
off-duplicate = rows (0x02020003 ∷ 7 ∷ 0x00050014 ∷ 0x40024002 ∷ [])

abbrev pub empty-loss : List ℕ
empty-loss = rows (0x01020003 ∷ 7 ∷ 0x00050008 ∷ 0x40010000 ∷ [])

abbrev pub empty-receipt : List ℕ
empty-receipt = rows (0x03020003 ∷ 7 ∷ 0x00050008 ∷ 100 ∷ [])

-- of a block's view
pub record OfAView : Type 0 where
  -- chunk words: standard all, crate all but the last; of type 1 and of type 2
  pub words :
      (words_shown Standard Loss a-loss ≡ Ok (16386 ∷ 16387 ∷ []))
      × (words_shown Crate Loss a-loss ≡ Ok (16386 ∷ []))
      × (words_shown Standard Duplicate a-duplicate ≡ Ok (16386 ∷ 16387 ∷ []))
      × (words_shown Crate Duplicate a-duplicate ≡ Ok (16386 ∷ []))
  pub numbers :
      (numbers_shown Standard Loss a-loss ≡ Ok (10 ∷ 11 ∷ 12 ∷ 13 ∷ []))
      × (numbers_shown Crate Loss a-loss ≡ Ok (10 ∷ 11 ∷ []))
      × (numbers_shown Standard Duplicate a-duplicate ≡ Ok (10 ∷ 11 ∷ 12 ∷ 13 ∷ []))
      × (numbers_shown Crate Duplicate a-duplicate ≡ Ok (10 ∷ 11 ∷ []))
  -- 10, before 7
  pub ten :
      (words_shown Standard Duplicate short-loss ≡ Err (OtherType 1))
      × (numbers_shown Crate Duplicate short-loss ≡ Err (OtherType 1))
      × (numbers_shown Standard Loss a-duplicate ≡ Err (OtherType 2))
      × (pairs_shown Standard short-loss ≡ Err (OtherType 1))
      × (entries_shown Crate a-receipt ≡ Err (OtherType 3))
  -- 7, in each reading's own rule
  pub seven :
      (words_shown Standard Loss short-loss ≡ Err (BadBlockLength 12 8))
      × (numbers_shown Crate Loss short-loss ≡ Err (BadBlockLength 12 8))
      × (pairs_shown Standard (rows (0x03000001 ∷ 7 ∷ [])) ≡ Err (BadBlockLength 12 8))
      × (entries_shown Standard (rows (0x05000001 ∷ 1 ∷ [])) ≡ Err (BadBlockLength 16 8))
      × (entries_shown Crate (rows (0x05000002 ∷ 1 ∷ 2 ∷ [])) ≡ Err (BadBlockLength 16 12))
  -- by L and not by what is left, in the crate too: L 8 with more behind it
  pub seven-by-length :
      (words_shown Crate Loss (rows (0x01000001 ∷ 7 ∷ 8 ∷ 9 ∷ [])) ≡ Err (BadBlockLength 12 8))
      × (numbers_shown Crate Duplicate (rows (0x02000001 ∷ 7 ∷ 8 ∷ 9 ∷ [])) ≡ Err (BadBlockLength 12 8))
  -- by a run of no length, in the standard; 10 first
  pub seven-by-words :
      (words_shown Standard Loss lost-loss ≡ Err (BadBlockLength 12 20))
      × (numbers_shown Standard Loss lost-loss ≡ Err (BadBlockLength 12 20))
      × (words_shown Standard Duplicate lost-duplicate ≡ Err (BadBlockLength 12 16))
      × (numbers_shown Standard Duplicate lost-duplicate ≡ Err (BadBlockLength 12 16))
      × (words_shown Standard Duplicate lost-loss ≡ Err (OtherType 1))
      × (numbers_shown Standard Loss lost-duplicate ≡ Err (OtherType 2))
  -- the crate takes it, and it covers nothing
  pub lost-run-by-the-crate :
      (words_shown Crate Loss lost-loss ≡ Ok (16386 ∷ 16384 ∷ 16385 ∷ []))
      × (numbers_shown Crate Loss lost-loss ≡ Ok (10 ∷ 11 ∷ 12 ∷ []))
      × (words_shown Crate Duplicate lost-duplicate ≡ Ok (16384 ∷ []))
      × (numbers_shown Crate Duplicate lost-duplicate ≡ Ok [])
  -- a time of 16384 is a time
  pub no-word-of-times :
      pairs_shown Standard (rows (0x03000004 ∷ 7 ∷ 0x00050009 ∷ 0x40004000 ∷ 16384 ∷ []))
      ≡ Ok (pair 5 0x40004000 ∷ pair 6 16384 ∷ [])
  -- the crate's list of a type 3 block with left under 12 is empty, and not refused
  pub no-list : pairs_shown Crate (rows (0x03000001 ∷ 7 ∷ [])) ≡ Ok []
  -- times and entries up to the view's end, which is the packet's end for the crate
  pub pairs :
      (pairs_shown Standard a-receipt ≡ Ok (pair 5 100 ∷ []))
      × (pairs_shown Crate (rows (0x03000003 ∷ 7 ∷ 0x00050009 ∷ 100 ∷ 200 ∷ []))
      ≡ Ok (pair 5 100 ∷ pair 6 200 ∷ []))
  pub entries :
      (entries_shown Standard an-echo ≡ Ok (echo 1 2 3 ∷ []))
      × (entries_shown Crate (rows (0x05000003 ∷ 1 ∷ 2 ∷ 3 ∷ 4 ∷ 5 ∷ 6 ∷ [])) ≡ Ok (echo 1 2 3 ∷ echo 4 5 6 ∷ []))
  -- the readings differ where times are outside for one alone: from 0 to 40000 by 32768
  pub readings-differ :
      (pairs_shown Standard (rows (0x030f0005 ∷ 7 ∷ 0x00009c40 ∷ 1 ∷ 2 ∷ 3 ∷ []))
      ≡ Ok (pair 0 1 ∷ pair 32768 2 ∷ []))
      × (pairs_shown Crate (rows (0x030f0005 ∷ 7 ∷ 0x00009c40 ∷ 1 ∷ 2 ∷ 3 ∷ []))
      ≡ Ok (pair 0 1 ∷ pair 32768 2 ∷ pair 0 3 ∷ []))
  -- begin off the grid: the standard lists from the first number on it, the crate from begin
  pub off-the-grid :
      (numbers_shown Standard Loss off-loss ≡ Ok (8 ∷ 12 ∷ 16 ∷ []))
      × (numbers_shown Crate Loss off-loss ≡ Ok (5 ∷ 9 ∷ 13 ∷ 17 ∷ []))
      × (numbers_shown Standard Duplicate off-duplicate ≡ Ok (8 ∷ 12 ∷ 16 ∷ []))
      × (numbers_shown Crate Duplicate off-duplicate ≡ Ok (5 ∷ 9 ∷ []))
      × (pairs_shown Standard (rows (0x03020004 ∷ 7 ∷ 0x00050014 ∷ 100 ∷ 200 ∷ []))
      ≡ Ok (pair 8 100 ∷ pair 12 200 ∷ []))
      × (pairs_shown Crate (rows (0x03020004 ∷ 7 ∷ 0x00050014 ∷ 100 ∷ 200 ∷ []))
      ≡ Ok (pair 5 100 ∷ pair 9 200 ∷ []))
  -- end comes before it: the standard lists nothing, and refuses nothing
  pub none-on-the-grid :
      (numbers_shown Standard Loss empty-loss ≡ Ok []) × (numbers_shown Crate Loss empty-loss ≡ Ok (5 ∷ []))
      × (pairs_shown Standard empty-receipt ≡ Ok []) × (pairs_shown Crate empty-receipt ≡ Ok (pair 5 100 ∷ []))

-- blocks of types 1, 3 (one time), 4, 5 (one entry), and a type 1 block that is too short
abbrev pub five-blocks : List ℕ
five-blocks =
    packet
    (0x01020003 ∷ 7 ∷ 0x000a000e ∷ 0x40024003 ∷ 0x03000003 ∷ 8 ∷ 0x00050006 ∷ 100 ∷ 0x04000002 ∷ 1 ∷ 2
    ∷ 0x05000003 ∷ 1 ∷ 2 ∷ 3 ∷ 0x01000001 ∷ 7 ∷ [])

-- of a packet and an index
pub record OfAPacket : Type 0 where
  -- the block of that index, in each reading's own view
  pub words :
      (words_asked Standard five-blocks 0 Loss ≡ Ok (16386 ∷ 16387 ∷ []))
      × (words_asked Crate five-blocks 0 Loss ≡ Ok (16386 ∷ []))
  pub numbers :
      (numbers_asked Standard five-blocks 0 Loss ≡ Ok (12 ∷ []))
      × (numbers_asked Crate five-blocks 0 Loss ≡ Ok (10 ∷ []))
  pub pairs :
      (pairs_asked Standard five-blocks 1 ≡ Ok (pair 5 100 ∷ []))
      × (pairs_asked Crate five-blocks 1 ≡ Ok (pair 5 100 ∷ []))
  pub entries :
      (entries_asked Standard five-blocks 3 ≡ Ok (echo 1 2 3 ∷ []))
      × (entries_asked Crate five-blocks 3 ≡ Ok (echo 1 2 3 ∷ []))
  pub of_fields :
      (fields_asked Standard five-blocks 0 (Chunks Loss) ≡ Ok (fields 7 10 14 2))
      × (fields_asked Crate five-blocks 1 Times ≡ Ok (fields 8 5 6 0))
  pub time :
      (time_asked Standard five-blocks 2 ≡ Ok (record { 0 = 0x100000002 }))
      × (time_asked Crate five-blocks 2 ≡ Ok (record { 0 = 0x100000002 }))
  -- 9 with the count, before 10
  pub nine :
      (words_asked Standard five-blocks 5 Loss ≡ Err (NoBlock 5))
      × (numbers_asked Crate five-blocks 5 Loss ≡ Err (NoBlock 5))
      × (pairs_asked Standard five-blocks 5 ≡ Err (NoBlock 5))
      × (entries_asked Crate five-blocks 5 ≡ Err (NoBlock 5))
      × (fields_asked Standard five-blocks 5 Times ≡ Err (NoBlock 5))
      × (time_asked Crate five-blocks 5 ≡ Err (NoBlock 5))
  -- 1 to 6 before 9
  pub one-to-six :
      (words_asked Crate (packet []) 5 Loss ≡ Err (TooShort 12 8))
      × (numbers_asked Standard (packet (0x01000001 ∷ [])) 5 Loss ≡ Err (BlockTooLong 8 4))
      × (fields_asked Standard [] 0 Times ≡ Err (TooShort 8 0)) × (time_asked Standard [] 0 ≡ Err (TooShort 8 0))
  -- 10 before 7
  pub ten :
      (words_asked Standard five-blocks 4 Duplicate ≡ Err (OtherType 1))
      × (numbers_asked Standard five-blocks 1 Loss ≡ Err (OtherType 3))
      × (pairs_asked Crate five-blocks 2 ≡ Err (OtherType 4))
      × (entries_asked Standard five-blocks 0 ≡ Err (OtherType 1))
      × (fields_asked Standard five-blocks 4 (Chunks Duplicate) ≡ Err (OtherType 1))
      × (time_asked Standard five-blocks 3 ≡ Err (OtherType 5))
  pub seven :
      (words_asked Standard five-blocks 4 Loss ≡ Err (BadBlockLength 12 8))
      × (fields_asked Crate five-blocks 4 (Chunks Loss) ≡ Err (BadBlockLength 12 8))
  -- the crate's view has everything left: a block of 4 bytes has fields and a time from what follows; standard 7
  pub from-what-follows :
      (fields_asked Crate (packet (0x03000000 ∷ 0x07000001 ∷ 0x00020003 ∷ [])) 0 Times
      ≡ Ok (fields 0x07000001 2 3 0))
      × (fields_asked Standard (packet (0x03000000 ∷ 0x07000001 ∷ 0x00020003 ∷ [])) 0 Times
      ≡ Err (BadBlockLength 12 4))
      × (time_asked Crate (packet (0x04000000 ∷ 0x07000001 ∷ 0x00020003 ∷ [])) 0
      ≡ Ok (record { 0 = 0x0700000100020003 }))
      × (time_asked Standard (packet (0x04000000 ∷ 0x07000001 ∷ 0x00020003 ∷ [])) 0 ≡ Err (BadBlockLength 12 4))
  -- 8, where a type 3 block stands last
  pub eight-refused :
      (fields_asked Crate (packet (0x03000001 ∷ 7 ∷ [])) 0 Times ≡ Err (NoFields 8))
      × (fields_asked Standard (packet (0x03000001 ∷ 7 ∷ [])) 0 Times ≡ Err (BadBlockLength 12 8))

-- a type 1 block with a run of no length in its last word, and one without behind it
abbrev pub lost-first : List ℕ
lost-first = packet (0x01000003 ∷ 7 ∷ 0x000a000e ∷ 0x40024000 ∷ 0x01000003 ∷ 8 ∷ 0x000a000e ∷ 0x40018000 ∷ [])

-- 7 by a run of no length, of a packet
pub record LostRun : Type 0 where
  -- every question about that block
  pub refusal :
      (words_asked Standard lost-first 0 Loss ≡ Err (BadBlockLength 12 16))
      × (numbers_asked Standard lost-first 0 Loss ≡ Err (BadBlockLength 12 16))
      × (fields_asked Standard lost-first 0 (Chunks Loss) ≡ Err (BadBlockLength 12 16))
      × (numbers_by Standard lost-first 0 1 ≡ Err (BadBlockLength 12 16))
  -- and about no other
  pub others :
      (words_asked Standard lost-first 1 Loss ≡ Ok (16385 ∷ 32768 ∷ []))
      × (numbers_asked Standard lost-first 1 Loss ≡ Ok (10 ∷ []))
      × (fields_asked Standard lost-first 1 (Chunks Loss) ≡ Ok (fields 8 10 14 0))
  -- 9 and 10 first, a number that is not served too
  pub after-ten :
      (numbers_asked Standard lost-first 2 Loss ≡ Err (NoBlock 2))
      × (numbers_asked Standard lost-first 0 Duplicate ≡ Err (OtherType 1))
      × (fields_by Standard lost-first 0 9 ≡ Err (OtherType 1))
  -- 11 behind it: no room, and as much as would be needed
  pub before-eleven :
      Listed (numbers_asked Standard lost-first 0 Loss) [] (Err (BadBlockLength 12 16)) []
      × Listed (words_asked Standard lost-first 0 Loss) (1 ∷ 2 ∷ []) (Err (BadBlockLength 12 16)) (1 ∷ 2 ∷ [])
  -- the crate answers
  pub by-the-crate :
      (words_asked Crate lost-first 0 Loss ≡ Ok (16386 ∷ []))
      × (numbers_asked Crate lost-first 0 Loss ≡ Ok (10 ∷ 11 ∷ []))
      × (fields_asked Crate lost-first 0 (Chunks Loss) ≡ Ok (fields 7 10 14 0))
  -- the walk and the view are as they were
  pub walked :
      (count_of Standard lost-first ≡ Ok 2)
      × (view_of Standard lost-first 0 ≡ Ok (rows (0x01000003 ∷ 7 ∷ 0x000a000e ∷ 0x40024000 ∷ [])))

-- the asked type by a number: one that the question does not serve is 10 with the block's own type
pub record ByNumber : Type 0 where
  -- numbers and chunk words are served by 1 and 2, fields by 1, 2 and 3
  pub served :
      (words_by Standard five-blocks 0 1 ≡ Ok (16386 ∷ 16387 ∷ []))
      × (words_by Crate five-blocks 0 1 ≡ Ok (16386 ∷ []))
      × (numbers_by Standard five-blocks 0 1 ≡ Ok (12 ∷ []))
      × (fields_by Standard five-blocks 0 1 ≡ Ok (fields 7 10 14 2))
      × (fields_by Standard five-blocks 1 3 ≡ Ok (fields 8 5 6 0))
  pub served-by-two :
      (words_by Standard (packet (0x02000003 ∷ 7 ∷ 0x000a000e ∷ 0x40024003 ∷ [])) 0 2 ≡ Ok (16386 ∷ 16387 ∷ []))
      × (numbers_by Crate (packet (0x02000003 ∷ 7 ∷ 0x000a000e ∷ 0x40024003 ∷ [])) 0 2 ≡ Ok (10 ∷ 11 ∷ []))
      × (fields_by Crate (packet (0x02000003 ∷ 7 ∷ 0x000a000e ∷ 0x40024003 ∷ [])) 0 2 ≡ Ok (fields 7 10 14 0))
  -- the other served number is 10, before 7
  pub other :
      (words_by Standard five-blocks 4 2 ≡ Err (OtherType 1))
      × (numbers_by Standard five-blocks 4 2 ≡ Err (OtherType 1))
      × (fields_by Standard five-blocks 4 3 ≡ Err (OtherType 1))
  -- a number that is not served is 10 with the block's own type, even where the block is of that type
  pub not-served :
      (words_by Standard five-blocks 1 3 ≡ Err (OtherType 3))
      × (numbers_by Crate five-blocks 1 3 ≡ Err (OtherType 3))
      × (numbers_by Standard five-blocks 0 0 ≡ Err (OtherType 1))
      × (numbers_by Standard five-blocks 0 257 ≡ Err (OtherType 1))
      × (fields_by Standard five-blocks 2 4 ≡ Err (OtherType 4))
      × (fields_by Crate five-blocks 3 5 ≡ Err (OtherType 5))
      × (fields_by Standard five-blocks 0 65537 ≡ Err (OtherType 1))
  -- after 9
  pub after-nine :
      (words_by Standard five-blocks 5 9 ≡ Err (NoBlock 5))
      × (numbers_by Crate five-blocks 5 9 ≡ Err (NoBlock 5))
      × (fields_by Standard five-blocks 5 9 ≡ Err (NoBlock 5))
      × (fields_by Crate (packet []) 0 9 ≡ Err (TooShort 12 8))
  -- before 7, which a served number of the block's own type finds; and before 8
  pub before-seven :
      (words_by Standard five-blocks 4 9 ≡ Err (OtherType 1))
      × (words_by Standard five-blocks 4 1 ≡ Err (BadBlockLength 12 8))
      × (numbers_by Standard five-blocks 4 9 ≡ Err (OtherType 1))
      × (numbers_by Crate five-blocks 4 1 ≡ Err (BadBlockLength 12 8))
      × (fields_by Crate five-blocks 4 9 ≡ Err (OtherType 1))
      × (fields_by Crate five-blocks 4 1 ≡ Err (BadBlockLength 12 8))
      × (fields_by Crate (packet (0x03000001 ∷ 7 ∷ [])) 0 3 ≡ Err (NoFields 8))
      × (fields_by Crate (packet (0x03000001 ∷ 7 ∷ [])) 0 4 ≡ Err (OtherType 3))

abbrev pub two-pairs : Or (List Receipt)
two-pairs = Ok (pair 5 100 ∷ pair 6 200 ∷ [])

abbrev pub no_pairs : Or (List Receipt)
no_pairs = Err (NoBlock 3)

abbrev pub one_entry : Or (List Echo)
one_entry = Ok (echo 4 5 6 ∷ [])

abbrev pub no-entry : Or (List Echo)
no-entry = Err (NoBlock 3)

-- lent lists side by side: the room is that of the shortest, and where it is short every list stays as it was
pub record SideBySide : Type 0 where
  pub pairs :
      ListedPairs two-pairs (1 ∷ 2 ∷ 3 ∷ []) (7 ∷ 8 ∷ []) (Ok 2) (5 ∷ 6 ∷ 3 ∷ []) (100 ∷ 200 ∷ [])
      × ListedPairs two-pairs (1 ∷ 2 ∷ []) (7 ∷ 8 ∷ 9 ∷ []) (Ok 2) (5 ∷ 6 ∷ []) (100 ∷ 200 ∷ 9 ∷ [])
  pub pairs-short :
      ListedPairs two-pairs (1 ∷ 2 ∷ 3 ∷ []) (7 ∷ []) (Err (NoRoom 2 1)) (1 ∷ 2 ∷ 3 ∷ []) (7 ∷ [])
      × ListedPairs two-pairs (1 ∷ []) (7 ∷ 8 ∷ 9 ∷ []) (Err (NoRoom 2 1)) (1 ∷ []) (7 ∷ 8 ∷ 9 ∷ [])
  pub pairs-refused : ListedPairs no_pairs (1 ∷ []) [] (Err (NoBlock 3)) (1 ∷ []) []
  pub entries :
      ListedEntries one_entry (1 ∷ 2 ∷ []) (7 ∷ []) (9 ∷ []) (Ok 1) (4 ∷ 2 ∷ []) (5 ∷ []) (6 ∷ [])
      × ListedEntries one_entry (1 ∷ []) (7 ∷ 8 ∷ []) (9 ∷ 10 ∷ []) (Ok 1) (4 ∷ []) (5 ∷ 8 ∷ []) (6 ∷ 10 ∷ [])
  -- each of the three in turn is the shortest
  pub entries-short :
      ListedEntries one_entry [] (7 ∷ 8 ∷ []) (9 ∷ []) (Err (NoRoom 1 0)) [] (7 ∷ 8 ∷ []) (9 ∷ [])
      × ListedEntries one_entry (1 ∷ []) [] (9 ∷ []) (Err (NoRoom 1 0)) (1 ∷ []) [] (9 ∷ [])
      × ListedEntries one_entry (1 ∷ []) (7 ∷ 8 ∷ []) [] (Err (NoRoom 1 0)) (1 ∷ []) (7 ∷ 8 ∷ []) []
  pub entries-refused :
      ListedEntries no-entry (1 ∷ []) (7 ∷ []) (9 ∷ []) (Err (NoBlock 3)) (1 ∷ []) (7 ∷ []) (9 ∷ [])
  -- no other answer, nor other contents, satisfies the contracts
  pub no-other-pairs :
      (r : Or ℕ) (ns ts : List ℕ) → ListedPairs two-pairs (1 ∷ 2 ∷ 3 ∷ []) (7 ∷ 8 ∷ []) r ns ts
      → (r ≡ Ok 2) × (ns ≡ 5 ∷ 6 ∷ 3 ∷ []) × (ts ≡ 100 ∷ 200 ∷ [])
  pub no-other-entries :
      (r : Or ℕ) (ss ls ds : List ℕ) → ListedEntries one_entry (1 ∷ 2 ∷ []) (7 ∷ []) (9 ∷ []) r ss ls ds
      → (r ≡ Ok 1) × (ss ≡ 4 ∷ 2 ∷ []) × (ls ≡ 5 ∷ []) × (ds ≡ 6 ∷ [])
