-- Facts of def_jobs' Writing: 15 of types 3 to 5 and whole lists, and a writer's order 12, 14, 15, 11.
-- RULES, "Job lists and writing" and "Refusal numbers".
use Rattle.std.specs.Prelude.{ℕ, zero, suc, ◌≡◌, List, [], ◌∷◌, ◌++◌, replicate, Ok, Err}
use Rattle.def_refusals.specs.declared.Refusal.TheVariants.{NoRoom, BadRecord, TooMany, Misleads}
use Rattle.def_refusals.specs.Answers.{Or, Listed}
use Rattle.def_jobs.specs.declared.Layout.TheVariants.{Plain, Careful}
use Rattle.def_jobs.specs.Writing.{packet_of}
use Rattle.examples.specs.Vectors.{packet4, packet10, packet11}
use Rattle.examples.specs.Rows.{packet, padded, job, header, report, receipts, clock, echoes}

abbrev pub careful : List ℕ → Or (List ℕ)
careful blocks = packet_of Careful (header 0 ++ blocks)

-- 0x11223344.55667788, and one entry: examples 7 and 10
abbrev pub a-clock : List ℕ
a-clock = clock 0x11223344 0x55667788

abbrev pub an-echo : List ℕ
an-echo = echoes (10 ∷ 11 ∷ 12 ∷ [])

-- an empty type 5 block: four bytes in the packet
abbrev pub four_bytes : List ℕ
four_bytes = echoes []

-- 15, of type 3: K own times, M times up to the packet's end, P positions inside. With a begin on the grid it misleads
-- unless M = K ≤ P, or K ≥ P and position P fails the crate's test; with one off it, wherever M > 0
pub record FifteenOfTimes : Type 0 where
  -- M = K ≤ P: nothing behind it, fewer times than positions and just as many
  pub all-its-own :
      (careful (receipts 5 9 0 (100 ∷ [])) ≡ Ok (packet (0x03000003 ∷ 7 ∷ 0x00050009 ∷ 100 ∷ [])))
      × (careful (receipts 5 6 0 (100 ∷ [])) ≡ Ok (packet (0x03000003 ∷ 7 ∷ 0x00050006 ∷ 100 ∷ [])))
      × (careful (receipts 0 0 15 (1 ∷ 2 ∷ [])) ≡ Ok (packet (0x030f0004 ∷ 7 ∷ 0 ∷ 1 ∷ 2 ∷ [])))
  -- example 7: K < P, and what follows is taken for times; four bytes are enough
  pub taken-for-times :
      (careful (receipts 5 9 0 (100 ∷ 200 ∷ []) ++ a-clock) ≡ Err (Misleads 0))
      × (careful (receipts 5 9 0 (100 ∷ 200 ∷ []) ++ four_bytes) ≡ Err (Misleads 0))
  -- example 8: K ≥ P, and position P fails
  pub position-p-fails :
      (careful (receipts 5 7 0 (100 ∷ 200 ∷ []) ++ four_bytes)
      ≡ Ok (packet (0x03000004 ∷ 7 ∷ 0x00050007 ∷ 100 ∷ 200 ∷ 0x05000000 ∷ [])))
      × (careful (receipts 5 6 0 (100 ∷ 200 ∷ [])) ≡ Ok (packet (0x03000004 ∷ 7 ∷ 0x00050006 ∷ 100 ∷ 200 ∷ [])))
  -- K ≥ P, and position P passes: round the whole circle by 32768
  pub position-p-passes :
      (careful (receipts 0 0 15 (1 ∷ 2 ∷ 3 ∷ [])) ≡ Err (Misleads 0))
      × (careful (receipts 0 0 15 (1 ∷ 2 ∷ []) ++ four_bytes) ≡ Err (Misleads 0))
  -- begin off the grid: wherever M > 0, its own time or what is taken for one, inside or not
  pub off-the-grid :
      (careful (receipts 5 20 2 (100 ∷ [])) ≡ Err (Misleads 0))
      × (careful (receipts 5 8 2 (100 ∷ [])) ≡ Err (Misleads 0))
      × (careful (receipts 5 5 2 (100 ∷ [])) ≡ Err (Misleads 0))
      × (careful (receipts 5 20 2 [] ++ four_bytes) ≡ Err (Misleads 0))
  -- none, and nothing behind it; begin moved up to the grid; plainly
  pub none-misled :
      (careful (receipts 5 20 2 []) ≡ Ok (packet (0x03020002 ∷ 7 ∷ 0x00050014 ∷ [])))
      × (careful (four_bytes ++ receipts 5 20 2 []) ≡ Ok (packet (0x05000000 ∷ 0x03020002 ∷ 7 ∷ 0x00050014 ∷ [])))
      × (careful (receipts 8 20 2 (100 ∷ [])) ≡ Ok (packet (0x03020003 ∷ 7 ∷ 0x00080014 ∷ 100 ∷ [])))
      × (packet_of Plain (header 0 ++ receipts 5 20 2 (100 ∷ []))
      ≡ Ok (packet (0x03020003 ∷ 7 ∷ 0x00050014 ∷ 100 ∷ [])))

-- 15, of type 5: 1, 5, 9, .. entries and 12 bytes or more behind; never of type 4
pub record FifteenOfEntries : Type 0 where
  -- one entry: nothing, 4 and 8 bytes behind it, and 12
  pub one_entry :
      (careful an-echo ≡ Ok (packet (0x05000003 ∷ 10 ∷ 11 ∷ 12 ∷ [])))
      × (careful (an-echo ++ four_bytes) ≡ Ok (packet (0x05000003 ∷ 10 ∷ 11 ∷ 12 ∷ 0x05000000 ∷ [])))
      × (careful (an-echo ++ (four_bytes ++ four_bytes))
      ≡ Ok (packet (0x05000003 ∷ 10 ∷ 11 ∷ 12 ∷ 0x05000000 ∷ 0x05000000 ∷ [])))
      × (careful (an-echo ++ (four_bytes ++ (four_bytes ++ four_bytes))) ≡ Err (Misleads 0))
  -- none, two and five entries with 12 bytes behind: the crate refuses the first two
  pub other-counts :
      (careful (four_bytes ++ a-clock) ≡ Ok (packet (0x05000000 ∷ 0x04000002 ∷ 0x11223344 ∷ 0x55667788 ∷ [])))
      × (careful (echoes (1 ∷ 2 ∷ 3 ∷ 4 ∷ 5 ∷ 6 ∷ []) ++ a-clock)
      ≡ Ok (packet (0x05000006 ∷ 1 ∷ 2 ∷ 3 ∷ 4 ∷ 5 ∷ 6 ∷ 0x04000002 ∷ 0x11223344 ∷ 0x55667788 ∷ [])))
      × (careful (echoes (replicate 15 1) ++ a-clock) ≡ Err (Misleads 0))
  pub time-never :
      careful (a-clock ++ a-clock)
      ≡ Ok (packet (0x04000002 ∷ 0x11223344 ∷ 0x55667788 ∷ 0x04000002 ∷ 0x11223344 ∷ 0x55667788 ∷ []))

-- so many records of the same bytes
abbrev pub times : ℕ → List ℕ → List ℕ
times zero l = []
times (suc n) l = l ++ times n l

pub record Order : Type 0 where
  -- the index of the first misleading block of two, counted without the header record
  pub first-misleading :
      (careful (a-clock ++ (an-echo ++ (an-echo ++ a-clock))) ≡ Err (Misleads 1))
      × (careful (a-clock ++ (report 1 8 20 2 (16385 ∷ []) ++ report 1 5 20 2 (16385 ∷ []))) ≡ Err (Misleads 2))
  -- plain writing is never 15
  pub plain-writes : packet_of Plain (header 0 ++ (an-echo ++ a-clock)) ≡ Ok packet10
  -- with N > 0, or no blocks, 15 never applies
  pub never-fifteen :
      (packet_of Careful (header 4 ++ (an-echo ++ four_bytes))
      ≡ Ok (padded (0x05000003 ∷ 10 ∷ 11 ∷ 12 ∷ 0x05000000 ∷ 4 ∷ [])))
      × (packet_of Careful (header 4 ++ (an-echo ++ a-clock))
      ≡ Ok (padded (0x05000003 ∷ 10 ∷ 11 ∷ 12 ∷ 0x04000002 ∷ 0x11223344 ∷ 0x55667788 ∷ 4 ∷ [])))
      × (packet_of Careful (header 0) ≡ Ok (packet []))
      × (packet_of Careful (header 8) ≡ Ok (padded (0 ∷ 8 ∷ [])))
  -- 31 blocks and one more, in both layouts
  pub blocks :
      (packet_of Plain (header 0 ++ times 31 four_bytes) ≡ Ok (packet (replicate 31 0x05000000)))
      × (packet_of Careful (header 0 ++ times 31 four_bytes) ≡ Ok (packet (replicate 31 0x05000000)))
      × (packet_of Plain (header 0 ++ times 32 four_bytes) ≡ Err (TooMany 32 31))
      × (packet_of Careful (header 0 ++ times 32 four_bytes) ≡ Err (TooMany 32 31))
  -- 12 before 14 and before 15, in the last record too
  pub twelve-first :
      (packet_of Plain (header 0 ++ (times 32 four_bytes ++ (0 ∷ []))) ≡ Err (BadRecord 33))
      × (packet_of Careful (header 0 ++ (an-echo ++ (a-clock ++ job 6 []))) ≡ Err (BadRecord 3))
      × (packet_of Careful [] ≡ Err (BadRecord 0))
  -- also of a run of ones of no length: before 14, before 15, before 11
  pub twelve-of-a-lost-run :
      (packet_of Plain (header 0 ++ (times 32 four_bytes ++ report 1 10 14 0 (16384 ∷ []))) ≡ Err (BadRecord 33))
      × (packet_of Careful (header 0 ++ (an-echo ++ (a-clock ++ report 2 10 14 0 (16386 ∷ 16384 ∷ []))))
      ≡ Err (BadRecord 3))
      × (packet_of Careful (header 0 ++ report 1 10 12 0 (16384 ∷ 16386 ∷ 16385 ∷ [])) ≡ Err (BadRecord 1))
      × Listed (packet_of Plain (header 0 ++ report 1 10 14 0 (16384 ∷ []))) [] (Err (BadRecord 1)) []
  -- 14 before 15
  pub fourteen-first : packet_of Careful (header 0 ++ (an-echo ++ times 31 four_bytes)) ≡ Err (TooMany 32 31)
  -- 12, 14 and 15 before 11, found without the lent buffer
  pub before-eleven :
      Listed (packet_of Plain []) [] (Err (BadRecord 0)) []
      × Listed (packet_of Plain (header 0 ++ times 32 four_bytes)) [] (Err (TooMany 32 31)) []
      × Listed (careful (an-echo ++ a-clock)) (1 ∷ 2 ∷ []) (Err (Misleads 0)) (1 ∷ 2 ∷ [])
  -- 11 with the packet's length: one byte less; the exact room; the bytes beyond the packet stay
  pub eleven :
      Listed (packet_of Plain (header 0)) (replicate 7 9) (Err (NoRoom 8 7)) (replicate 7 9)
      × Listed (packet_of Plain (header 0)) (replicate 8 9) (Ok 8) (packet [])
      × Listed (packet_of Careful (header 0)) (replicate 10 9) (Ok 8) (packet [] ++ (9 ∷ 9 ∷ []))
  -- example 4 plain, and example 11
  pub both-layouts :
      (packet_of Plain (header 0 ++ report 1 10 14 0 (16386 ∷ 16386 ∷ [])) ≡ Ok packet4)
      × (packet_of Careful (header 0 ++ report 1 10 14 0 (16386 ∷ 16386 ∷ [])) ≡ Ok packet11)
