-- Facts of def_wire's Block: header bytes, kinds by their numbers, length rules, the run of no length, refusals 10, 7
-- and 8.
-- RULES, "Packet and blocks", "Standard reading", "Crate reading" and "Refusal numbers".
use Rattle.std.specs.Prelude.{ℕ, ◌+◌, ◌≡◌, true, false, List, [], ◌∷◌, ◌++◌, map, length, Ok, Err, Some, None}
use Rattle.def_refusals.specs.declared.Refusal.TheVariants.{OtherType, BadBlockLength, NoFields}
use Rattle.def_wire.specs.declared.Reading.TheVariants.{Standard, Crate}
use Rattle.def_wire.specs.declared.Rle.TheVariants.{Loss, Duplicate}
use Rattle.def_wire.specs.declared.Ranged.TheVariants.{Chunks, Times}
use Rattle.def_wire.specs.declared.Kind.TheVariants.{Spans, Clock, Echoes, Statistics}
use Rattle.def_wire.specs.Block.{header_data, type_of, specific_of, block_length, fields_at, time_at, kind_type}
use Rattle.def_wire.specs.Block.{rle_of, ranged_of, kind_of, kind_in, rule, next_fit, standard_rule, crate_rule, fitness}
use Rattle.def_wire.specs.Block.{check_of, is_cut, fields_of, time_of, words_at, lost_run, has, clear_rule, word_rule}
use Rattle.examples.specs.Rows.{fields, rows}

-- the numbers that ask for a kind, those around them, and those that a byte or two bytes would take for one
abbrev pub asked : List ℕ
asked = 0 ∷ 1 ∷ 2 ∷ 3 ∷ 4 ∷ 5 ∷ 6 ∷ 7 ∷ 255 ∷ 257 ∷ 262 ∷ 65536 ∷ 65537 ∷ []

pub record Kinds : Type 0 where
  -- loss 1, duplicate 2, receipt times 3, reference time 4, DLRR 5, statistics summary 6
  pub numbers :
      (kind_type (Spans (Chunks Loss)) ≡ 1) × (kind_type (Spans (Chunks Duplicate)) ≡ 2) × (kind_type (Spans Times) ≡ 3)
      × (kind_type Clock ≡ 4) × (kind_type Echoes ≡ 5) × (kind_type Statistics ≡ 6)
  pub rle :
      map rle_of asked
      ≡ None ∷ Some Loss ∷ Some Duplicate ∷ None ∷ None ∷ None ∷ None ∷ None ∷ None ∷ None ∷ None
      ∷ None ∷ None ∷ []
  pub ranged :
      map ranged_of asked
      ≡ None ∷ Some (Chunks Loss) ∷ Some (Chunks Duplicate) ∷ Some Times ∷ None ∷ None ∷ None
      ∷ None ∷ None ∷ None ∷ None ∷ None ∷ None ∷ []
  pub kinds :
      map kind_of asked
      ≡ None ∷ Some (Spans (Chunks Loss)) ∷ Some (Spans (Chunks Duplicate)) ∷ Some (Spans Times) ∷ Some Clock
      ∷ Some Echoes ∷ Some Statistics ∷ None ∷ None ∷ None ∷ None ∷ None ∷ None ∷ []
  -- the standard knows all of these, the crate all but type 6
  pub to-the-standard : map (kind_in Standard) asked ≡ map kind_of asked
  pub to-the-crate :
      map (kind_in Crate) asked
      ≡ None ∷ Some (Spans (Chunks Loss)) ∷ Some (Spans (Chunks Duplicate)) ∷ Some (Spans Times) ∷ Some Clock
      ∷ Some Echoes ∷ None ∷ None ∷ None ∷ None ∷ None ∷ None ∷ None ∷ []

-- a type 1 block of 16 bytes: specific byte 0xf2, every field's bytes different
abbrev pub a-loss : List ℕ
a-loss = rows (0x01f20003 ∷ 0x0a0b0c0d ∷ 0x11121314 ∷ 0x40014002 ∷ [])

-- a type 4 block
abbrev pub a-clock : List ℕ
a-clock = rows (0x04000002 ∷ 0x01020304 ∷ 0x05060708 ∷ [])

pub record Parts : Type 0 where
  -- all four header bytes as they stand, the high bits of the specific byte too
  pub header : (header_data a-loss ≡ 1 ∷ 0xf2 ∷ 0 ∷ 3 ∷ []) × (header_data [] ≡ 0 ∷ 0 ∷ 0 ∷ 0 ∷ [])
  pub type-and-specific : (type_of a-loss ≡ 1) × (specific_of a-loss ≡ 0xf2)
  -- L from the length field, not from what follows
  pub length-field : (block_length a-loss ≡ 16) × (block_length (rows (0x05000100 ∷ [])) ≡ 1028)
  -- SSRC at 4, begin at 8, end at 10; the thinning is the low four bits of byte 1
  pub of_fields : fields_at a-loss ≡ fields 0x0a0b0c0d 0x1112 0x1314 2
  pub thinning :
      (fields_at (rows (0x010f0002 ∷ 7 ∷ 9 ∷ [])) ≡ fields 7 0 9 15)
      × (fields_at (rows (0x01100002 ∷ 7 ∷ 9 ∷ [])) ≡ fields 7 0 9 0)
  -- the 64-bit time at 4
  pub of-time : time_at a-clock ≡ record { 0 = 0x0102030405060708 }

pub record LengthRules : Type 0 where
  pub holds : (rule true 12 8 ≡ Ok tt) × (rule false 12 8 ≡ Err (BadBlockLength 12 8))
  -- the least length from l on with l - 4 divisible by 12
  pub next-fitting :
      map next_fit (4 ∷ 8 ∷ 12 ∷ 16 ∷ 20 ∷ 24 ∷ 28 ∷ 32 ∷ []) ≡ 4 ∷ 16 ∷ 16 ∷ 16 ∷ 28 ∷ 28 ∷ 28 ∷ 40 ∷ []
  -- standard, types 1 to 3: L ≥ 12
  pub standard-spans :
      (standard_rule (Spans (Chunks Loss)) 8 ≡ Err (BadBlockLength 12 8))
      × (standard_rule (Spans (Chunks Loss)) 12 ≡ Ok tt)
      × (standard_rule (Spans (Chunks Duplicate)) 4 ≡ Err (BadBlockLength 12 4))
      × (standard_rule (Spans Times) 8 ≡ Err (BadBlockLength 12 8)) × (standard_rule (Spans Times) 16 ≡ Ok tt)
  -- type 4: L = 12
  pub standard-clock :
      (standard_rule Clock 8 ≡ Err (BadBlockLength 12 8)) × (standard_rule Clock 12 ≡ Ok tt)
      × (standard_rule Clock 16 ≡ Err (BadBlockLength 12 16))
  -- type 5: L - 4 divisible by 12; else the next fitting length and L
  pub standard-echoes :
      (standard_rule Echoes 4 ≡ Ok tt) × (standard_rule Echoes 8 ≡ Err (BadBlockLength 16 8))
      × (standard_rule Echoes 12 ≡ Err (BadBlockLength 16 12)) × (standard_rule Echoes 16 ≡ Ok tt)
      × (standard_rule Echoes 20 ≡ Err (BadBlockLength 28 20))
      × (standard_rule Echoes 24 ≡ Err (BadBlockLength 28 24))
      × (standard_rule Echoes 28 ≡ Ok tt)
  -- type 6: L = 40
  pub standard-summary :
      (standard_rule Statistics 36 ≡ Err (BadBlockLength 40 36)) × (standard_rule Statistics 40 ≡ Ok tt)
      × (standard_rule Statistics 44 ≡ Err (BadBlockLength 40 44))
      × (standard_rule Statistics 4 ≡ Err (BadBlockLength 40 4))
  -- crate, types 1 and 2: L ≥ 12, whatever is left; 12 and L
  pub crate-chunks :
      (crate_rule (Spans (Chunks Loss)) 8 40 ≡ Err (BadBlockLength 12 8))
      × (crate_rule (Spans (Chunks Loss)) 12 12 ≡ Ok tt)
      × (crate_rule (Spans (Chunks Duplicate)) 4 40 ≡ Err (BadBlockLength 12 4))
  -- type 3 checks no length
  pub crate-times : (crate_rule (Spans Times) 4 4 ≡ Ok tt) × (crate_rule (Spans Times) 8 8 ≡ Ok tt)
  -- type 4: left ≥ 12, whatever L is; 12 and left
  pub crate-clock :
      (crate_rule Clock 4 8 ≡ Err (BadBlockLength 12 8)) × (crate_rule Clock 4 12 ≡ Ok tt)
      × (crate_rule Clock 16 20 ≡ Ok tt)
  -- type 5: left ≥ 16 first, with 16 and left; then L divisible by 16, with L + L mod 16 and left
  pub crate-echoes :
      (crate_rule Echoes 4 12 ≡ Err (BadBlockLength 16 12)) × (crate_rule Echoes 16 12 ≡ Err (BadBlockLength 16 12))
      × (crate_rule Echoes 16 16 ≡ Ok tt) × (crate_rule Echoes 12 16 ≡ Err (BadBlockLength 24 16))
      × (crate_rule Echoes 4 20 ≡ Err (BadBlockLength 8 20))
      × (crate_rule Echoes 28 28 ≡ Err (BadBlockLength 40 28))
      × (crate_rule Echoes 32 40 ≡ Ok tt)
  -- type 6: 10 with 6, whatever its lengths are
  pub crate-summary :
      (crate_rule Statistics 40 40 ≡ Err (OtherType 6)) × (crate_rule Statistics 4 60 ≡ Err (OtherType 6))
  -- the crate's L comes from the length field, and left is all of the view
  pub of-a-view :
      (fitness Standard Clock (rows (0x04000003 ∷ 0 ∷ 0 ∷ 0 ∷ [])) ≡ Err (BadBlockLength 12 16))
      × (fitness Crate Clock (rows (0x04000003 ∷ 0 ∷ 0 ∷ 0 ∷ [])) ≡ Ok tt)
      × (fitness Crate Echoes (rows (0x05000000 ∷ 0x04000002 ∷ 0 ∷ 0 ∷ 0 ∷ [])) ≡ Err (BadBlockLength 8 20))
      × (fitness Crate (Spans (Chunks Loss)) (rows (0x01000001 ∷ 0 ∷ 0 ∷ 0 ∷ [])) ≡ Err (BadBlockLength 12 8))

-- a type 1 and a type 2 block with words, two to a row; every field is 16384, twice
abbrev pub loss-with : List ℕ → List ℕ
loss-with ws = rows ((0x01000002 + length ws) ∷ 0x40004000 ∷ 0x40004000 ∷ ws)

abbrev pub duplicate-with : List ℕ → List ℕ
duplicate-with ws = rows ((0x02000002 + length ws) ∷ 0x40004000 ∷ 0x40004000 ∷ ws)

-- a run of ones of no length: of types 1 and 2, in the standard reading, 7 with 12 and L
pub record LostRuns : Type 0 where
  pub the_word : lost_run ≡ 16384
  -- words from byte 12 on, whole ones
  pub words :
      (words_at (loss-with (0x12345678 ∷ [])) ≡ 0x1234 ∷ 0x5678 ∷ []) × (words_at (loss-with []) ≡ [])
      × (words_at (loss-with [] ++ (0x40 ∷ [])) ≡ []) × (words_at (loss-with [] ++ (0x40 ∷ 0 ∷ 1 ∷ [])) ≡ 16384 ∷ [])
  -- none; the first, one in the middle, the last; alone; not there
  pub among :
      (has 5 [] ≡ false) × (has 5 (5 ∷ 6 ∷ 7 ∷ []) ≡ true) × (has 6 (5 ∷ 6 ∷ 7 ∷ []) ≡ true)
      × (has 7 (5 ∷ 6 ∷ 7 ∷ []) ≡ true) × (has 5 (5 ∷ []) ≡ true) × (has 8 (5 ∷ 6 ∷ 7 ∷ []) ≡ false)
      × (has 5 (6 ∷ []) ≡ false)
  -- the length given goes with it
  pub of_words :
      (clear_rule 16 [] ≡ Ok tt) × (clear_rule 16 (16384 ∷ []) ≡ Err (BadBlockLength 12 16))
      × (clear_rule 20 (16385 ∷ 16384 ∷ 0 ∷ []) ≡ Err (BadBlockLength 12 20))
      × (clear_rule 12 (1 ∷ 16384 ∷ []) ≡ Err (BadBlockLength 12 12))
  -- its neighbours, its bytes exchanged, its bits moved, with the top bit too, and nothing
  pub other-words : clear_rule 16 (16383 ∷ 16385 ∷ 64 ∷ 8192 ∷ 32768 ∷ 49152 ∷ 0 ∷ []) ≡ Ok tt
  -- of types 1 and 2 alone
  pub of-kinds :
      (word_rule (Spans (Chunks Loss)) 16 (loss-with (0x40004001 ∷ [])) ≡ Err (BadBlockLength 12 16))
      × (word_rule (Spans (Chunks Duplicate)) 16 (loss-with (0x40004001 ∷ [])) ≡ Err (BadBlockLength 12 16))
      × (word_rule (Spans Times) 16 (loss-with (0x40004001 ∷ [])) ≡ Ok tt)
      × (word_rule Clock 16 (loss-with (0x40004001 ∷ [])) ≡ Ok tt)
      × (word_rule Echoes 16 (loss-with (0x40004001 ∷ [])) ≡ Ok tt)
      × (word_rule Statistics 16 (loss-with (0x40004001 ∷ [])) ≡ Ok tt)
  -- the first word, one in the middle, the last, the only one that is not 0
  pub refusal :
      (fitness Standard (Spans (Chunks Loss)) (loss-with (0x40004001 ∷ [])) ≡ Err (BadBlockLength 12 16))
      × (fitness Standard (Spans (Chunks Loss)) (loss-with (0x40014001 ∷ 0x40004001 ∷ 0x40014001 ∷ []))
      ≡ Err (BadBlockLength 12 24))
      × (fitness Standard (Spans (Chunks Loss)) (loss-with (0x40014001 ∷ 0x40014000 ∷ []))
      ≡ Err (BadBlockLength 12 20))
      × (fitness Standard (Spans (Chunks Duplicate)) (duplicate-with (0x40000000 ∷ [])) ≡ Err (BadBlockLength 12 16))
      × (fitness Standard (Spans (Chunks Duplicate)) (duplicate-with (0x00004000 ∷ [])) ≡ Err (BadBlockLength 12 16))
  -- where the words before it have covered the range, from 10 to 11
  pub past-the-range :
      fitness Standard (Spans (Chunks Loss)) (rows (0x01000004 ∷ 7 ∷ 0x000a000b ∷ 0x7fff7fff ∷ 0x40014000 ∷ []))
      ≡ Err (BadBlockLength 12 20)
  -- every field may be 16384; its bytes may stand across two words, or across the fields and the first word
  pub not-a-word :
      (fitness Standard (Spans (Chunks Loss)) (loss-with []) ≡ Ok tt)
      × (fitness Standard (Spans (Chunks Loss)) (loss-with (0x40014001 ∷ [])) ≡ Ok tt)
      × (fitness Standard (Spans (Chunks Loss)) (loss-with (0x01400002 ∷ [])) ≡ Ok tt)
      × (fitness Standard (Spans (Chunks Duplicate)) (duplicate-with (0x00400000 ∷ 0x00400001 ∷ [])) ≡ Ok tt)
      × (fitness Standard (Spans (Chunks Loss)) (rows (0x01400003 ∷ 7 ∷ 0x000a0040 ∷ 0x00010002 ∷ [])) ≡ Ok tt)
  -- L is the length of what is given, not the length field's; by length first
  pub by_length :
      (fitness Standard (Spans (Chunks Loss)) (rows (0x01000005 ∷ 7 ∷ 0 ∷ 0x40004001 ∷ []))
      ≡ Err (BadBlockLength 12 16))
      × (fitness Standard (Spans (Chunks Loss)) (rows (0x01000001 ∷ 0x40004000 ∷ [])) ≡ Err (BadBlockLength 12 8))
  -- times, a clock and entries of 16384 are what they are
  pub other-kinds :
      (fitness Standard (Spans Times) (rows (0x03000004 ∷ 7 ∷ 0x00050009 ∷ 0x40004000 ∷ 16384 ∷ [])) ≡ Ok tt)
      × (fitness Standard Clock (rows (0x04000002 ∷ 0x40004000 ∷ 0x40004000 ∷ [])) ≡ Ok tt)
      × (fitness Standard Echoes (rows (0x05000006 ∷ 1 ∷ 2 ∷ 0x40004000 ∷ 0x40004000 ∷ 16384 ∷ 16384 ∷ [])) ≡ Ok tt)
  -- their own rules are as they were
  pub other-rules :
      (fitness Standard (Spans Times) (rows (0x03000001 ∷ 0x40004000 ∷ [])) ≡ Err (BadBlockLength 12 8))
      × (fitness Standard Clock (rows (0x04000003 ∷ 1 ∷ 2 ∷ 0x40004000 ∷ [])) ≡ Err (BadBlockLength 12 16))
      × (fitness Standard Echoes (rows (0x05000004 ∷ 1 ∷ 2 ∷ 3 ∷ 0x40004000 ∷ [])) ≡ Err (BadBlockLength 28 20))
  -- the crate takes the word
  pub by-the-crate :
      (fitness Crate (Spans (Chunks Loss)) (loss-with (0x40004001 ∷ [])) ≡ Ok tt)
      × (fitness Crate (Spans (Chunks Duplicate)) (duplicate-with (0x40014000 ∷ 0x40000000 ∷ [])) ≡ Ok tt)
  -- 10 first
  pub checked :
      (check_of Standard (Spans (Chunks Loss)) (loss-with (0x40004001 ∷ [])) ≡ Err (BadBlockLength 12 16))
      × (check_of Standard (Spans (Chunks Duplicate)) (loss-with (0x40004001 ∷ [])) ≡ Err (OtherType 1))
      × (check_of Standard (Spans (Chunks Loss)) (duplicate-with (0x40004001 ∷ [])) ≡ Err (OtherType 2))
      × (check_of Standard (Spans Times) (loss-with (0x40004001 ∷ [])) ≡ Err (OtherType 1))
      × (check_of Crate (Spans (Chunks Loss)) (loss-with (0x40004001 ∷ [])) ≡ Ok tt)
  -- its fields are not shown either
  pub no_fields :
      (fields_of Standard (Chunks Loss) (loss-with (0x40014000 ∷ [])) ≡ Err (BadBlockLength 12 16))
      × (fields_of Standard (Chunks Duplicate) (duplicate-with (0x40004001 ∷ [])) ≡ Err (BadBlockLength 12 16))
      × (fields_of Crate (Chunks Loss) (loss-with (0x40014000 ∷ []))
      ≡ Ok (fields 0x40004000 0x4000 0x4000 0))

-- a type 1 block that is too short, and a type 2 block of the same bytes
abbrev pub short-loss : List ℕ
short-loss = rows (0x01000001 ∷ 7 ∷ [])

pub record Checks : Type 0 where
  -- 10 with the block's own type, before 7: loss and duplicate are different asked types
  pub ten-first :
      (check_of Standard (Spans (Chunks Duplicate)) short-loss ≡ Err (OtherType 1))
      × (check_of Crate (Spans (Chunks Duplicate)) short-loss ≡ Err (OtherType 1))
      × (check_of Standard Clock short-loss ≡ Err (OtherType 1))
      × (check_of Crate Echoes a-clock ≡ Err (OtherType 4))
      × (check_of Standard (Spans (Chunks Loss)) (rows (0x02000002 ∷ 7 ∷ 0 ∷ [])) ≡ Err (OtherType 2))
      × (check_of Standard (Spans Times) (rows (0xff000002 ∷ 7 ∷ 0 ∷ [])) ≡ Err (OtherType 255))
  -- then 7
  pub then-seven :
      (check_of Standard (Spans (Chunks Loss)) short-loss ≡ Err (BadBlockLength 12 8))
      × (check_of Crate (Spans (Chunks Loss)) short-loss ≡ Err (BadBlockLength 12 8))
  pub fit :
      (check_of Standard (Spans (Chunks Loss)) a-loss ≡ Ok tt) × (check_of Crate (Spans (Chunks Loss)) a-loss ≡ Ok tt)
      × (check_of Standard Clock a-clock ≡ Ok tt) × (check_of Crate Clock a-clock ≡ Ok tt)
  -- 8 is the crate's, of type 3 alone, with left under 12
  pub cut :
      (is_cut Crate Times 8 ≡ true) × (is_cut Crate Times 11 ≡ true) × (is_cut Crate Times 12 ≡ false)
      × (is_cut Standard Times 8 ≡ false) × (is_cut Crate (Chunks Loss) 8 ≡ false)
      × (is_cut Standard (Chunks Loss) 8 ≡ false)

pub record Fields : Type 0 where
  pub of-loss :
      (fields_of Standard (Chunks Loss) a-loss ≡ Ok (fields 0x0a0b0c0d 0x1112 0x1314 2))
      × (fields_of Crate (Chunks Loss) a-loss ≡ Ok (fields 0x0a0b0c0d 0x1112 0x1314 2))
  -- 10, then 7
  pub order :
      (fields_of Standard (Chunks Duplicate) short-loss ≡ Err (OtherType 1))
      × (fields_of Standard (Chunks Loss) short-loss ≡ Err (BadBlockLength 12 8))
      × (fields_of Standard Times (rows (0x03000001 ∷ 7 ∷ [])) ≡ Err (BadBlockLength 12 8))
  -- crate, type 3: 8 with left 4 and 8, whatever L is, and 12 bytes are enough
  pub eight-refused :
      (fields_of Crate Times (rows (0x03000000 ∷ [])) ≡ Err (NoFields 4))
      × (fields_of Crate Times (rows (0x03000001 ∷ 7 ∷ [])) ≡ Err (NoFields 8))
      × (fields_of Crate Times (rows (0x03000000 ∷ 7 ∷ [])) ≡ Err (NoFields 8))
      × (fields_of Crate Times (rows (0x03050002 ∷ 7 ∷ 0x00020003 ∷ [])) ≡ Ok (fields 7 2 3 5))
  -- 10 before 8
  pub ten-before-eight : fields_of Crate Times (rows (0x04000000 ∷ [])) ≡ Err (OtherType 4)
  -- L < 12 ≤ left is accepted: the fields come from what follows
  pub from-what-follows : fields_of Crate Times (rows (0x03000000 ∷ 7 ∷ 0x00020003 ∷ [])) ≡ Ok (fields 7 2 3 0)
  -- the time: 10, then 7, in each reading's own rule
  pub time :
      (time_of Standard a-clock ≡ Ok (record { 0 = 0x0102030405060708 }))
      × (time_of Crate a-clock ≡ Ok (record { 0 = 0x0102030405060708 }))
      × (time_of Crate (rows (0x04000000 ∷ 1 ∷ 2 ∷ [])) ≡ Ok (record { 0 = 0x100000002 }))
  pub time-order :
      (time_of Standard short-loss ≡ Err (OtherType 1))
      × (time_of Standard (rows (0x04000001 ∷ 1 ∷ [])) ≡ Err (BadBlockLength 12 8))
      × (time_of Crate (rows (0x04000001 ∷ 1 ∷ [])) ≡ Err (BadBlockLength 12 8))
