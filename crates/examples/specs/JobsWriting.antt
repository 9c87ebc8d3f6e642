-- Facts of def_jobs' Writing: 14, when an old reader is misled, and a writer's order 12, 14, 15, 11.
-- RULES, "Job lists and writing" and "Refusal numbers".
use Rattle.std.specs.Prelude.{ℕ, ◌≡◌, true, false, List, [], ◌∷◌, ◌++◌, Ok, Err}
use Rattle.def_refusals.specs.declared.Refusal.TheVariants.{NoBlock, NoPlace, BadRecord, TooMany, Misleads}
use Rattle.def_refusals.specs.Answers.{Or}
use Rattle.def_wire.specs.declared.Reading.TheVariants.{Standard, Crate}
use Rattle.def_wire.specs.declared.Rle.TheVariants.{Loss}
use Rattle.def_jobs.specs.declared.Layout.TheVariants.{Plain, Careful}
use Rattle.def_jobs.specs.Shown.{reported, clocked, echoed}
use Rattle.def_jobs.specs.Writing.{max_blocks, max_bytes, size_fault, shown_in, differs, misleads, misleading_from}
use Rattle.def_jobs.specs.Writing.{mislead_fault, packet_of}
use Rattle.examples.specs.Standard.{echo}
use Rattle.examples.specs.Vectors.{packet10, turned10}
use Rattle.examples.specs.JobsShown.{a-time, an-echo}
use Rattle.examples.specs.Rows.{fields, packet, padded, header, report}

pub record Fourteen : Type 0 where
  pub limits : (max_blocks ≡ 31) × (max_bytes ≡ 262144)
  -- 31 blocks and one more; 262,144 bytes and one word more
  pub blocks : (size_fault 31 8 ≡ Ok tt) × (size_fault 32 8 ≡ Err (TooMany 32 31)) × (size_fault 0 8 ≡ Ok tt)
  pub bytes :
      (size_fault 1 262144 ≡ Ok tt) × (size_fault 1 262145 ≡ Err (TooMany 262145 262144))
      × (size_fault 31 262148 ≡ Err (TooMany 262148 262144))
  -- the blocks are tested first
  pub blocks-first : size_fault 32 262148 ≡ Err (TooMany 32 31)

-- a list of one type 1 block written carefully
abbrev pub one-loss : ℕ → ℕ → ℕ → List ℕ → Or (List ℕ)
one-loss b e t ws = packet_of Careful (header 0 ++ report 1 b e t ws)

pub record Misled : Type 0 where
  -- what block k shows in each reading: example 10, and no block 2
  pub in-a-reading :
      (shown_in Standard packet10 0 ≡ Ok (echoed (echo 10 11 12 ∷ [])))
      × (shown_in Crate packet10 0 ≡ Ok (echoed (echo 10 11 12 ∷ echo 0x04000002 0x11223344 0x55667788 ∷ [])))
      × (shown_in Standard packet10 1 ≡ Ok (clocked (record { 0 = 0x1122334455667788 })))
      × (shown_in Crate packet10 2 ≡ Err (NoBlock 2))
  -- the crate's answer against the standard's: its refusal misleads nobody, else what is shown otherwise, or refused
  pub differing :
      (differs (Err NoPlace) (Ok a-time) ≡ false) × (differs (Err NoPlace) (Err (NoBlock 1)) ≡ false)
      × (differs (Ok a-time) (Err NoPlace) ≡ true) × (differs (Ok a-time) (Ok an-echo) ≡ true)
      × (differs (Ok a-time) (Ok a-time) ≡ false)
  pub example-10 :
      (misleads packet10 0 ≡ true) × (misleads packet10 1 ≡ false) × (misleads turned10 0 ≡ false)
      × (misleads turned10 1 ≡ false)
  -- the standard refuses a type 4 block of 16 bytes, and the crate shows it
  pub shown-and-refused : misleads (packet (0x04000003 ∷ 1 ∷ 2 ∷ 3 ∷ [])) 0 ≡ true
  -- and a type 1 block with a run of no length: no list asks for one, since that is 12
  pub lost-run :
      (misleads (packet (0x01000003 ∷ 7 ∷ 0x000a000e ∷ 0x40014000 ∷ [])) 0 ≡ true)
      × (one-loss 10 14 0 (16385 ∷ 16384 ∷ []) ≡ Err (BadRecord 1))
  -- the first of n blocks from k on: none asked, none misleading, the first of two
  pub first-from :
      (misleading_from packet10 0 0 ≡ Ok tt) × (misleading_from packet10 0 2 ≡ Err (Misleads 0))
      × (misleading_from packet10 1 1 ≡ Ok tt)
      × (misleading_from turned10 0 2 ≡ Ok tt)
  -- careful writing alone asks
  pub careful-alone :
      (mislead_fault Plain packet10 2 ≡ Ok tt) × (mislead_fault Careful packet10 2 ≡ Err (Misleads 0))
      × (mislead_fault Careful packet10 0 ≡ Ok tt)

-- 15, of types 1 and 2 with a begin on the grid: the first one-valued position outside the range passes the crate's
-- test
pub record FifteenOfReports : Type 0 where
  -- the moved start has passed the end; the words before may be zeros; of type 2 as well
  pub does :
      (one-loss 10 12 0 (16386 ∷ 16385 ∷ []) ≡ Err (Misleads 0))
      × (one-loss 10 12 0 (2 ∷ 16385 ∷ []) ≡ Err (Misleads 0))
      × (packet_of Careful (header 0 ++ report 2 10 12 0 (16386 ∷ 16385 ∷ [])) ≡ Err (Misleads 0))
  -- it fails the test, in its own word or before another
  pub does_not :
      (one-loss 10 12 0 (16387 ∷ []) ≡ Ok (packet (0x01000003 ∷ 7 ∷ 0x000a000c ∷ 0x40030000 ∷ [])))
      × (one-loss 10 12 0 (16387 ∷ 16385 ∷ []) ≡ Ok (packet (0x01000004 ∷ 7 ∷ 0x000a000c ∷ 0x40034001 ∷ 0 ∷ [])))
  -- past 65535, and round the whole circle by 32768
  pub wrapped :
      (one-loss 65530 65531 0 (49408 ∷ []) ≡ Err (Misleads 0))
      × (one-loss 0 0 15 (16387 ∷ []) ≡ Err (Misleads 0))
      × (one-loss 0 40000 15 (16387 ∷ []) ≡ Err (Misleads 0))
      × (one-loss 0 0 15 (16386 ∷ []) ≡ Ok (packet (0x010f0003 ∷ 7 ∷ 0 ∷ 0x40020000 ∷ [])))
  -- begin = end by 4096: 16 positions are inside. The 17th passes where its word begins at begin again, else it fails
  pub whole-circle :
      (one-loss 4096 4096 12 (16400 ∷ 16385 ∷ []) ≡ Err (Misleads 0))
      × (one-loss 4096 4096 12 (16399 ∷ 16385 ∷ 16385 ∷ []) ≡ Err (Misleads 0))
      × (one-loss 4096 4096 12 (16399 ∷ 16386 ∷ [])
      ≡ Ok (packet (0x010c0004 ∷ 7 ∷ 0x10001000 ∷ 0x400f4002 ∷ 0 ∷ [])))
  -- the careful layout is what the crate reads: two ones in two words, the last not skipped
  pub last-word-kept :
      one-loss 10 14 0 (16386 ∷ 16386 ∷ []) ≡ Ok (packet (0x01000004 ∷ 7 ∷ 0x000a000e ∷ 0x40024002 ∷ 0 ∷ []))

-- 15, of types 1 and 2 with a begin off the grid: the first one-valued position at all passes the crate's test. The
-- crate's numbers are then never the standard's
pub record FifteenOffTheGrid : Type 0 where
  -- the first and the only one, one behind zeros, one past 65535, one of type 2
  pub does :
      (one-loss 5 20 2 (16385 ∷ []) ≡ Err (Misleads 0)) × (one-loss 5 20 2 (3 ∷ 16385 ∷ []) ≡ Err (Misleads 0))
      × (one-loss 65533 10 2 (16385 ∷ []) ≡ Err (Misleads 0))
      × (one-loss 1 0 15 (16385 ∷ []) ≡ Err (Misleads 0))
      × (packet_of Careful (header 0 ++ report 2 5 20 2 (16385 ∷ [])) ≡ Err (Misleads 0))
  -- round the whole circle, with the words above
  pub whole-circle :
      (one-loss 5 5 12 (16400 ∷ 16385 ∷ []) ≡ Err (Misleads 0))
      × (one-loss 5 5 12 (16399 ∷ 16385 ∷ 16385 ∷ []) ≡ Err (Misleads 0))
      × (one-loss 5 5 12 (16399 ∷ 16386 ∷ []) ≡ Err (Misleads 0))
  -- also where the standard lists nothing: end comes before its grid, and a position past the range
  pub nothing-asked :
      (one-loss 5 8 2 (16385 ∷ []) ≡ Err (Misleads 0)) × (one-loss 5 6 2 (16385 ∷ []) ≡ Err (Misleads 0))
      × (one-loss 5 10 2 (0xa000 ∷ []) ≡ Err (Misleads 0))
  -- no ones, no words
  pub no_ones :
      (one-loss 5 20 2 (3 ∷ []) ≡ Ok (packet (0x01020003 ∷ 7 ∷ 0x00050014 ∷ 0x00030000 ∷ [])))
      × (one-loss 5 20 2 [] ≡ Ok (packet (0x01020002 ∷ 7 ∷ 0x00050014 ∷ [])))
      × (packet_of Careful (header 0 ++ report 2 5 20 2 (3 ∷ []))
      ≡ Ok (packet (0x02020003 ∷ 7 ∷ 0x00050014 ∷ 0x00030000 ∷ [])))
  -- the first one fails the crate's test, and ends its list: 9 from 5 to 9; what follows may be anything
  pub first-fails :
      (one-loss 5 9 2 (0xa000 ∷ []) ≡ Ok (packet (0x01020003 ∷ 7 ∷ 0x00050009 ∷ 0xa0000000 ∷ [])))
      × (one-loss 5 6 2 (0xa000 ∷ 16385 ∷ [])
      ≡ Ok (packet (0x01020004 ∷ 7 ∷ 0x00050006 ∷ 0xa0004001 ∷ 0 ∷ [])))
  -- begin moved up to the grid: the same numbers are written
  pub moved_up :
      (one-loss 8 20 2 (16387 ∷ []) ≡ Ok (packet (0x01020003 ∷ 7 ∷ 0x00080014 ∷ 0x40030000 ∷ [])))
      × (one-loss 0 10 2 (16387 ∷ []) ≡ Ok (packet (0x01020003 ∷ 7 ∷ 0x0000000a ∷ 0x40030000 ∷ [])))
  -- plainly, and with padding, all is written
  pub written :
      (packet_of Plain (header 0 ++ report 1 5 20 2 (16385 ∷ []))
      ≡ Ok (packet (0x01020003 ∷ 7 ∷ 0x00050014 ∷ 0x40010000 ∷ [])))
      × (packet_of Plain (header 0 ++ report 2 5 8 2 (16385 ∷ []))
      ≡ Ok (packet (0x02020003 ∷ 7 ∷ 0x00050008 ∷ 0x40010000 ∷ [])))
      × (packet_of Careful (header 4 ++ report 1 5 20 2 (16385 ∷ []))
      ≡ Ok (padded (0x01020003 ∷ 7 ∷ 0x00050014 ∷ 0x40010000 ∷ 4 ∷ [])))
  -- what is asked by it is what the standard shows of it
  pub read_back :
      (shown_in Standard (packet (0x01020003 ∷ 7 ∷ 0x00050014 ∷ 0x40010000 ∷ [])) 0
      ≡ Ok (reported Loss (fields 7 5 20 2) (8 ∷ [])))
      × (shown_in Crate (packet (0x01020003 ∷ 7 ∷ 0x00050014 ∷ 0x40010000 ∷ [])) 0
      ≡ Ok (reported Loss (fields 7 5 20 2) (5 ∷ [])))
