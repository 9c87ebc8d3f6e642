-- Facts of def_portions' Events: what the bytes of a packet that have come so far show.
-- RULES, "Packets in portions".
use Rattle.std.specs.Prelude.{ℕ, ◌≡◌, List, [], ◌∷◌, map, take, Option, Ok, Err, Some, None}
use Rattle.def_wire.specs.declared.Kind.{Kind}
use Rattle.def_refusals.specs.declared.Refusal.TheVariants.{TooShort, WrongVersion, WrongPacketType, Padded}
use Rattle.def_refusals.specs.declared.Refusal.TheVariants.{BlockTooLong, BadBlockLength}
use Rattle.def_wire.specs.declared.Rle.TheVariants.{Loss, Duplicate}
use Rattle.def_wire.specs.declared.Ranged.TheVariants.{Chunks, Times}
use Rattle.def_wire.specs.declared.Kind.TheVariants.{Spans, Clock, Echoes}
use Rattle.def_portions.specs.declared.Event.{Event}
use Rattle.def_portions.specs.declared.Event.TheVariants.{Header, Start, Ranged as RangedStart, Number, Pair}
use Rattle.def_portions.specs.declared.Event.TheVariants.{Entry, Time, End}
use Rattle.def_portions.specs.Events.{head_fault, block_fault, block_events, blocks_from, course_of, course, quiet}
use Rattle.def_portions.specs.Events.{clear_words, clear_part, lost_fault, block_then}
use Rattle.examples.specs.Rows.{rows, packet, fields}

-- a number and its time; whose echo, last, delay; a clock time
abbrev pub pair : ℕ → ℕ → Event
pair n t = Pair (record { number = n; time = record { 0 = t } })

abbrev pub entry : ℕ → ℕ → ℕ → Event
entry s l d = Entry (record { ssrc = s; last = record { 0 = l }; delay = record { 0 = d } })

abbrev pub time : ℕ → Event
time t = Time (record { 0 = t })

-- the packet's first four bytes
pub record HeadFaults : Type 0 where
  -- 1: an announced length of 4, and one of 8
  pub least : (head_fault (rows (0x80cf0000 ∷ [])) ≡ Err (TooShort 8 4)) × (head_fault (rows (0x80cf0001 ∷ [])) ≡ Ok tt)
  -- 2: the five low bits are not looked at
  pub version :
      (head_fault (rows (0x40cf0001 ∷ [])) ≡ Err WrongVersion)
      × (head_fault (rows (0xc0cf0001 ∷ [])) ≡ Err WrongVersion)
      × (head_fault (rows (0x9fcf0001 ∷ [])) ≡ Ok tt)
  -- 3
  pub packet-type :
      (head_fault (rows (0x80ce0001 ∷ [])) ≡ Err WrongPacketType)
      × (head_fault (rows (0x80d00001 ∷ [])) ≡ Err WrongPacketType)
  -- 18
  pub padding : head_fault (rows (0xa0cf0001 ∷ [])) ≡ Err Padded
  -- 1, 2, 3, 18
  pub order :
      (head_fault (rows (0x60ce0000 ∷ [])) ≡ Err (TooShort 8 4))
      × (head_fault (rows (0x60ce0001 ∷ [])) ≡ Err WrongVersion)
      × (head_fault (rows (0xa0ce0001 ∷ [])) ≡ Err WrongPacketType)

-- a block's first four bytes
pub record BlockFaults : Type 0 where
  -- 6: as many bytes as are left, and four over
  pub too_long :
      (block_fault 12 (rows (0x01000002 ∷ [])) ≡ Ok tt)
      × (block_fault 12 (rows (0x01000003 ∷ [])) ≡ Err (BlockTooLong 16 12))
      × (block_fault 4 (rows (0x63000000 ∷ [])) ≡ Ok tt)
      × (block_fault 4 (rows (0x63000001 ∷ [])) ≡ Err (BlockTooLong 8 4))
  -- 7: types 1 to 3 from 12 on
  pub ranges :
      (block_fault 99 (rows (0x01000001 ∷ [])) ≡ Err (BadBlockLength 12 8))
      × (block_fault 99 (rows (0x02000001 ∷ [])) ≡ Err (BadBlockLength 12 8))
      × (block_fault 99 (rows (0x03000001 ∷ [])) ≡ Err (BadBlockLength 12 8))
      × (block_fault 99 (rows (0x03000002 ∷ [])) ≡ Ok tt)
  -- type 4 of 12, type 5 of 4, 16, 28
  pub clocks :
      (block_fault 99 (rows (0x04000001 ∷ [])) ≡ Err (BadBlockLength 12 8))
      × (block_fault 99 (rows (0x04000002 ∷ [])) ≡ Ok tt)
      × (block_fault 99 (rows (0x04000003 ∷ [])) ≡ Err (BadBlockLength 12 16))
  pub echoes :
      (block_fault 99 (rows (0x05000000 ∷ [])) ≡ Ok tt) × (block_fault 99 (rows (0x05000003 ∷ [])) ≡ Ok tt)
      × (block_fault 99 (rows (0x05000001 ∷ [])) ≡ Err (BadBlockLength 16 8))
      × (block_fault 99 (rows (0x05000004 ∷ [])) ≡ Err (BadBlockLength 28 20))
  -- other types have no rule
  pub others : (block_fault 99 (rows (0x00000000 ∷ [])) ≡ Ok tt) × (block_fault 99 (rows (0x07000000 ∷ [])) ≡ Ok tt)
  -- 6, then 7
  pub six-first :
      (block_fault 4 (rows (0x01000001 ∷ [])) ≡ Err (BlockTooLong 8 4))
      × (block_fault 12 (rows (0x04000003 ∷ [])) ≡ Err (BlockTooLong 16 12))

-- from 10 to before 14, every second: a run of one, then a vector whose first two are ones
abbrev pub loss : List ℕ
loss = rows (0x01010003 ∷ 7 ∷ 0x000a000e ∷ 0x4001e000 ∷ [])

-- the times of 65535 and 0, and one past the range
abbrev pub times : List ℕ
times = rows (0x03000005 ∷ 7 ∷ 0xffff0001 ∷ 100 ∷ 200 ∷ 300 ∷ [])

-- from 5 to before 20 by fours, four ones: 8, 12, 16
abbrev pub off-loss : List ℕ
off-loss = rows (0x01020003 ∷ 7 ∷ 0x00050014 ∷ 0x40024002 ∷ [])

abbrev pub off-start : Event
off-start = RangedStart 1 16 (fields 7 5 20 2)

abbrev pub clock : List ℕ
clock = rows (0x04000002 ∷ 1 ∷ 2 ∷ [])

abbrev pub echoed : List ℕ
echoed = rows (0x05000006 ∷ 1 ∷ 2 ∷ 3 ∷ 4 ∷ 5 ∷ 6 ∷ [])

abbrev pub loss-start : Event
loss-start = RangedStart 1 16 (fields 7 10 14 1)

abbrev pub times-start : Event
times-start = RangedStart 3 24 (fields 7 65535 1 0)

-- one block, of its bytes so far: each event at the byte that completes it, and not one before
pub record BlockSoFar : Type 0 where
  -- the fields with byte 12, a number with its word's second byte
  pub of-loss :
      (block_events (take 4 loss) ≡ []) × (block_events (take 11 loss) ≡ [])
      × (block_events (take 12 loss) ≡ loss-start ∷ [])
      × (block_events (take 13 loss) ≡ loss-start ∷ [])
      × (block_events (take 14 loss) ≡ loss-start ∷ Number 10 ∷ [])
      × (block_events (take 15 loss) ≡ loss-start ∷ Number 10 ∷ [])
      × (block_events loss ≡ loss-start ∷ Number 10 ∷ Number 12 ∷ [])
  pub of-duplicates :
      (block_events (take 11 (rows (0x02000002 ∷ 7 ∷ 0x000a000e ∷ []))) ≡ [])
      × (block_events (rows (0x02000003 ∷ 7 ∷ 0x000a000e ∷ 0x40018000 ∷ []))
      ≡ RangedStart 2 16 (fields 7 10 14 0) ∷ Number 10 ∷ [])
  -- a pair with its time's fourth byte, where inside
  pub of-times :
      (block_events (take 11 times) ≡ []) × (block_events (take 15 times) ≡ times-start ∷ [])
      × (block_events (take 16 times) ≡ times-start ∷ pair 65535 100 ∷ [])
      × (block_events (take 19 times) ≡ times-start ∷ pair 65535 100 ∷ [])
      × (block_events times ≡ times-start ∷ pair 65535 100 ∷ pair 0 200 ∷ [])
  -- begin off the grid: from the first number on it, begin itself in the start; nothing where end comes before it
  pub off-the-grid :
      (block_events (take 13 off-loss) ≡ off-start ∷ [])
      × (block_events (take 14 off-loss) ≡ off-start ∷ Number 8 ∷ Number 12 ∷ [])
      × (block_events off-loss ≡ off-start ∷ Number 8 ∷ Number 12 ∷ Number 16 ∷ [])
      × (block_events (rows (0x02020003 ∷ 7 ∷ 0x00050008 ∷ 0x40024002 ∷ [])) ≡ RangedStart 2 16 (fields 7 5 8 2) ∷ [])
      × (block_events (rows (0x03020004 ∷ 7 ∷ 0x00050009 ∷ 100 ∷ 200 ∷ []))
      ≡ RangedStart 3 20 (fields 7 5 9 2) ∷ pair 8 100 ∷ [])
  -- the start with byte 4, the time with byte 12
  pub of-clock :
      (block_events (take 4 clock) ≡ Start 4 12 ∷ []) × (block_events (take 11 clock) ≡ Start 4 12 ∷ [])
      × (block_events clock ≡ Start 4 12 ∷ time 0x100000002 ∷ [])
  -- an entry with its twelfth byte
  pub of-echoes :
      (block_events (take 4 echoed) ≡ Start 5 28 ∷ []) × (block_events (take 15 echoed) ≡ Start 5 28 ∷ [])
      × (block_events (take 16 echoed) ≡ Start 5 28 ∷ entry 1 2 3 ∷ [])
      × (block_events (take 27 echoed) ≡ Start 5 28 ∷ entry 1 2 3 ∷ [])
      × (block_events echoed ≡ Start 5 28 ∷ entry 1 2 3 ∷ entry 4 5 6 ∷ [])
  -- others: the start alone
  pub of_others :
      (block_events (rows (0x63000001 ∷ [])) ≡ Start 99 8 ∷ [])
      × (block_events (rows (0x63000001 ∷ 5 ∷ [])) ≡ Start 99 8 ∷ [])
      × (block_events (rows (0x07000000 ∷ [])) ≡ Start 7 4 ∷ [])

-- three blocks: of 8 bytes, a clock, of 4
abbrev pub mixed : List ℕ
mixed = packet (0x63000001 ∷ 9 ∷ 0x04000002 ∷ 1 ∷ 2 ∷ 0x62000000 ∷ [])

-- a block with a begin off the grid, and one of 4 bytes
abbrev pub off : List ℕ
off = packet (0x01020003 ∷ 7 ∷ 0x00050014 ∷ 0x40024002 ∷ 0x63000000 ∷ [])

-- a block of 4 bytes, then a clock that says 16; and one that says 12, where 8 are left
abbrev pub bad-rule : List ℕ
bad-rule = packet (0x63000000 ∷ 0x04000003 ∷ 0 ∷ 0 ∷ 0 ∷ 0x62000000 ∷ [])

abbrev pub bad-length : List ℕ
bad-length = packet (0x63000000 ∷ 0x62000002 ∷ 0 ∷ [])

-- the whole packet, of its bytes so far
pub record SoFar : Type 0 where
  -- the header is judged at its fourth byte
  pub nothing : (course_of [] ≡ quiet) × (course_of (0x40 ∷ 0 ∷ 0 ∷ []) ≡ quiet)
  pub judged :
      (course_of (rows (0x40cf0001 ∷ [])) ≡ course [] (Err WrongVersion))
      × (course_of (rows (0xa0cf0001 ∷ 1 ∷ 2 ∷ [])) ≡ course [] (Err Padded))
  -- and told with its eighth
  pub header :
      (course_of (take 4 mixed) ≡ quiet) × (course_of (take 7 mixed) ≡ quiet)
      × (course_of (take 8 mixed) ≡ course (Header 32 1 ∷ []) (Ok tt))
  -- a packet of 8 bytes: header and end
  pub empty : course_of (packet []) ≡ course (Header 8 1 ∷ End ∷ []) (Ok tt)
  -- block after block
  pub blocks :
      (course_of (take 11 mixed) ≡ course (Header 32 1 ∷ []) (Ok tt))
      × (course_of (take 12 mixed) ≡ course (Header 32 1 ∷ Start 99 8 ∷ []) (Ok tt))
      × (course_of (take 19 mixed) ≡ course (Header 32 1 ∷ Start 99 8 ∷ []) (Ok tt))
      × (course_of (take 20 mixed) ≡ course (Header 32 1 ∷ Start 99 8 ∷ Start 4 12 ∷ []) (Ok tt))
      × (course_of (take 28 mixed) ≡ course (Header 32 1 ∷ Start 99 8 ∷ Start 4 12 ∷ time 0x100000002 ∷ []) (Ok tt))
      × (course_of (take 31 mixed) ≡ course (Header 32 1 ∷ Start 99 8 ∷ Start 4 12 ∷ time 0x100000002 ∷ []) (Ok tt))
      × (course_of mixed
      ≡ course (Header 32 1 ∷ Start 99 8 ∷ Start 4 12 ∷ time 0x100000002 ∷ Start 98 4 ∷ End ∷ []) (Ok tt))
  -- the end comes with the last byte, not with the last block's start
  pub last :
      (course_of (take 12 (packet (0x63000001 ∷ 9 ∷ []))) ≡ course (Header 16 1 ∷ Start 99 8 ∷ []) (Ok tt))
      × (course_of (take 15 (packet (0x63000001 ∷ 9 ∷ []))) ≡ course (Header 16 1 ∷ Start 99 8 ∷ []) (Ok tt))
      × (course_of (packet (0x63000001 ∷ 9 ∷ [])) ≡ course (Header 16 1 ∷ Start 99 8 ∷ End ∷ []) (Ok tt))
  -- as many blocks as can be
  pub smallest : course_of (packet (0x63000000 ∷ 0x62000000 ∷ 0x61000000 ∷ []))
      ≡ course (Header 20 1 ∷ Start 99 4 ∷ Start 98 4 ∷ Start 97 4 ∷ End ∷ []) (Ok tt)
  -- a block shows its own bytes, not those behind it
  pub own : course_of (packet (0x01000002 ∷ 7 ∷ 0 ∷ 0x63000000 ∷ []))
      ≡ course (Header 24 1 ∷ RangedStart 1 12 (fields 7 0 0 0) ∷ Start 99 4 ∷ End ∷ []) (Ok tt)
  -- a begin off the grid, and a block behind it
  pub off-the-grid :
      (course_of (take 22 off) ≡ course (Header 28 1 ∷ off-start ∷ Number 8 ∷ Number 12 ∷ []) (Ok tt))
      × (course_of off
      ≡ course (Header 28 1 ∷ off-start ∷ Number 8 ∷ Number 12 ∷ Number 16 ∷ Start 99 4 ∷ End ∷ []) (Ok tt))
  pub no_fuel : blocks_from (packet []) 8 0 8 ≡ quiet
  -- 7 and 6 at a block's fourth byte: its start is not told, nor what is behind it
  pub seven :
      (course_of (take 15 bad-rule) ≡ course (Header 32 1 ∷ Start 99 4 ∷ []) (Ok tt))
      × (course_of (take 16 bad-rule) ≡ course (Header 32 1 ∷ Start 99 4 ∷ []) (Err (BadBlockLength 12 16)))
      × (course_of bad-rule ≡ course (Header 32 1 ∷ Start 99 4 ∷ []) (Err (BadBlockLength 12 16)))
  pub six :
      (course_of (take 15 bad-length) ≡ course (Header 20 1 ∷ Start 99 4 ∷ []) (Ok tt))
      × (course_of (take 16 bad-length) ≡ course (Header 20 1 ∷ Start 99 4 ∷ []) (Err (BlockTooLong 12 8)))

-- types 1 and 2 with a run of ones of no length: the second word of four, and the first of two; a type 3 block whose
-- times have its bytes
abbrev pub lost-loss : List ℕ
lost-loss = rows (0x01000004 ∷ 7 ∷ 0x000a000e ∷ 0x40014000 ∷ 0x40010000 ∷ [])

abbrev pub lost-duplicate : List ℕ
lost-duplicate = rows (0x02000003 ∷ 7 ∷ 0x000a000e ∷ 0x40004001 ∷ [])

abbrev pub lost-times : List ℕ
lost-times = rows (0x03000004 ∷ 7 ∷ 0x00050009 ∷ 0x40004000 ∷ 16384 ∷ [])

abbrev pub a-loss-kind : Option Kind
a-loss-kind = Some (Spans (Chunks Loss))

-- a block and a run of no length
pub record LostRuns : Type 0 where
  -- the words before the first one; all, where there is none
  pub words :
      map clear_words
      ([] ∷ (16384 ∷ []) ∷ (16384 ∷ 1 ∷ []) ∷ (1 ∷ 2 ∷ 16384 ∷ 3 ∷ 16384 ∷ []) ∷ (1 ∷ 2 ∷ [])
      ∷ (16383 ∷ 16385 ∷ 64 ∷ 32768 ∷ 49152 ∷ 0 ∷ []) ∷ [])
      ≡ 0 ∷ 0 ∷ 0 ∷ 2 ∷ 2 ∷ 6 ∷ []
  -- the bytes before it: of types 1 and 2; what is no word stays, and half a word is none
  pub bytes-before :
      (clear_part a-loss-kind lost-loss ≡ take 14 lost-loss)
      × (clear_part (Some (Spans (Chunks Duplicate))) lost-duplicate ≡ take 12 lost-duplicate)
      × (clear_part a-loss-kind (take 11 lost-loss) ≡ take 11 lost-loss)
      × (clear_part a-loss-kind (take 15 lost-loss) ≡ take 14 lost-loss)
      × (clear_part a-loss-kind loss ≡ loss)
  pub all-bytes :
      (clear_part (Some (Spans Times)) lost-times ≡ lost-times) × (clear_part (Some Clock) lost-loss ≡ lost-loss)
      × (clear_part (Some Echoes) lost-loss ≡ lost-loss) × (clear_part None lost-loss ≡ lost-loss)
  -- 7 with 12 and L, once its second byte has come
  pub fault :
      (lost_fault a-loss-kind lost-loss ≡ Err (BadBlockLength 12 20))
      × (lost_fault a-loss-kind (take 16 lost-loss) ≡ Err (BadBlockLength 12 20))
      × (lost_fault a-loss-kind (take 15 lost-loss) ≡ Ok tt)
      × (lost_fault (Some (Spans (Chunks Duplicate))) (take 14 lost-duplicate) ≡ Err (BadBlockLength 12 16))
      × (lost_fault a-loss-kind loss ≡ Ok tt)
  pub no-fault :
      (lost_fault (Some (Spans Times)) lost-times ≡ Ok tt) × (lost_fault (Some Clock) lost-loss ≡ Ok tt)
      × (lost_fault (Some Echoes) lost-loss ≡ Ok tt) × (lost_fault None lost-loss ≡ Ok tt)
  -- a block, and what comes behind it: nothing, where it ends there
  pub behind :
      (block_then loss (course (End ∷ []) (Ok tt)) ≡ course (loss-start ∷ Number 10 ∷ Number 12 ∷ End ∷ []) (Ok tt))
      × (block_then loss (course [] (Err WrongVersion))
      ≡ course (loss-start ∷ Number 10 ∷ Number 12 ∷ []) (Err WrongVersion))
      × (block_then lost-duplicate (course (End ∷ []) (Ok tt))
      ≡ course (RangedStart 2 16 (fields 7 10 14 0) ∷ []) (Err (BadBlockLength 12 16)))
      × (block_then lost-loss (course (End ∷ []) (Err WrongVersion))
      ≡ course (RangedStart 1 20 (fields 7 10 14 0) ∷ Number 10 ∷ []) (Err (BadBlockLength 12 20)))

-- the packet of the first, and a block behind it
abbrev pub lost : List ℕ
lost = packet (0x01000004 ∷ 7 ∷ 0x000a000e ∷ 0x40014000 ∷ 0x40010000 ∷ 0x63000000 ∷ [])

abbrev pub lost-events : List Event
lost-events = Header 32 1 ∷ RangedStart 1 20 (fields 7 10 14 0) ∷ Number 10 ∷ []

-- a good block, then one from 10 to 11 whose last word is such a run, past the range
abbrev pub lost-last : List ℕ
lost-last =
    packet
    (0x01000003 ∷ 7 ∷ 0x000a000e ∷ 0x40018000 ∷ 0x02000004 ∷ 8 ∷ 0x000a000b ∷ 0x40034003 ∷ 0x00034000 ∷ [])

abbrev pub lost-last-events : List Event
lost-last-events =
    Header 44 1 ∷ RangedStart 1 16 (fields 7 10 14 0) ∷ Number 10 ∷ RangedStart 2 20 (fields 8 10 11 0) ∷ Number 10 ∷ []

pub record LostSoFar : Type 0 where
  -- at the word's second byte: the numbers before it are told, those behind it and the block behind it are not
  pub second-byte :
      (course_of (take 22 lost) ≡ course lost-events (Ok tt)) × (course_of (take 23 lost) ≡ course lost-events (Ok tt))
      × (course_of (take 24 lost) ≡ course lost-events (Err (BadBlockLength 12 20)))
      × (course_of (take 25 lost) ≡ course lost-events (Err (BadBlockLength 12 20)))
      × (course_of (take 26 lost) ≡ course lost-events (Err (BadBlockLength 12 20)))
      × (course_of (take 28 lost) ≡ course lost-events (Err (BadBlockLength 12 20)))
      × (course_of lost ≡ course lost-events (Err (BadBlockLength 12 20)))
  -- the packet's last word, past the range: no end
  pub past-the-range :
      (course_of (take 43 lost-last) ≡ course lost-last-events (Ok tt))
      × (course_of lost-last ≡ course lost-last-events (Err (BadBlockLength 12 20)))
  -- a block's first word: its start is told, with its twelfth byte
  pub first_word :
      (course_of (take 21 (packet (0x02000003 ∷ 7 ∷ 0x000a000e ∷ 0x40004001 ∷ [])))
      ≡ course (Header 24 1 ∷ RangedStart 2 16 (fields 7 10 14 0) ∷ []) (Ok tt))
      × (course_of (take 22 (packet (0x02000003 ∷ 7 ∷ 0x000a000e ∷ 0x40004001 ∷ [])))
      ≡ course (Header 24 1 ∷ RangedStart 2 16 (fields 7 10 14 0) ∷ []) (Err (BadBlockLength 12 16)))
  -- by length first, at the block's fourth byte
  pub by_length :
      course_of (packet (0x01000001 ∷ 0x40004000 ∷ [])) ≡ course (Header 16 1 ∷ []) (Err (BadBlockLength 12 8))
  -- in fields, across two words, across two blocks, in times, and in other types, its bytes are no such run
  pub goes_on :
      (course_of (packet (0x01000003 ∷ 0x40004000 ∷ 0x40004000 ∷ 0x01400002 ∷ []))
      ≡ course (Header 24 1 ∷ RangedStart 1 16 (fields 0x40004000 16384 16384 0) ∷ End ∷ []) (Ok tt))
      × (course_of (packet (0x03000004 ∷ 7 ∷ 0x00050009 ∷ 0x40004000 ∷ 16384 ∷ []))
      ≡ course
      (Header 28 1 ∷ RangedStart 3 20 (fields 7 5 9 0) ∷ pair 5 0x40004000 ∷ pair 6 16384 ∷ End ∷ []) (Ok tt))
      × (course_of (packet (0x63000003 ∷ 0x40004000 ∷ 0x40004000 ∷ 0x40004000 ∷ []))
      ≡ course (Header 24 1 ∷ Start 99 16 ∷ End ∷ []) (Ok tt))
      × (course_of (packet (0x01000003 ∷ 7 ∷ 0x000a000e ∷ 0x00010040 ∷ 0x00000000 ∷ []))
      ≡ course (Header 28 1 ∷ RangedStart 1 16 (fields 7 10 14 0) ∷ Start 0 4 ∷ End ∷ []) (Ok tt))
      × (course_of (packet (0x05000003 ∷ 16384 ∷ 0x40004000 ∷ 16384 ∷ []))
      ≡ course (Header 24 1 ∷ Start 5 16 ∷ entry 16384 0x40004000 16384 ∷ End ∷ []) (Ok tt))
