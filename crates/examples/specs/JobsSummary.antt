-- Facts of def_jobs for kind 6: which records are good, what they ask, their 40 bytes, what a summary shows and when
-- two show the same, and that a summary misleads nobody.
-- RULES, "Job lists and writing".
use Rattle.std.specs.Prelude.{Ok, Err, Some, None}
use Rattle.std.specs.Prelude.{ℕ, ◌≡◌, true, false, List, [], ◌∷◌, ◌++◌, map, length, take, replicate}
use Rattle.def_refusals.specs.declared.Refusal.TheVariants.{BadBlockLength, BadRecord, TooMany, Misleads}
use Rattle.def_wire.specs.declared.Reading.TheVariants.{Standard, Crate}
use Rattle.def_wire.specs.declared.HopsOr.TheVariants.{NoHops, Ttl, HopLimit, Unknown}
use Rattle.def_wire.specs.declared.Summary.{Summary}
use Rattle.def_wire.specs.Summary.{spread, byte_spread}
use Rattle.def_jobs.specs.declared.Layout.TheVariants.{Plain, Careful}
use Rattle.def_jobs.specs.Shown.{Record, summed, bare, record_of, numbers_row, same_record}
use Rattle.def_jobs.specs.Jobs.{Job, job_flags, job_sums, is_flags, is_block_job, asked_of}
use Rattle.def_jobs.specs.Layout.{sums_bytes, block_bytes}
use Rattle.def_jobs.specs.Writing.{is_bare, same_shown, differs, misleads, packet_of}
use Rattle.examples.specs.Rows.{rows, packet, padded, le2, le4, le4s, job, header, report, receipts}
use Rattle.examples.specs.WireSummary.{nine_words, words-with, a_block, the-sums, with-numbers, full, empty}
use Rattle.examples.specs.WireSummary.{lost, twice, jitter, ttl, hops, too_short, too_long}
use Rattle.examples.specs.Jobs.{of-kind, fits, bad, fault, at-record}
use Rattle.examples.specs.JobsShown.{a-time, an-echo}
use Rattle.examples.specs.JobsOrder.{careful, a-clock, an-echo as echo-job, four_bytes, times}

-- the body of 38 bytes with these flags and this second byte, the numbers of `the-sums`
abbrev pub body-with : ℕ → ℕ → List ℕ
body-with flags second =
    flags ∷ second ∷ (le4 0x0a0b0c0d ++ (le2 0x1112 ++ (le2 0x1314
    ++ (le4s (0x21222324 ∷ 0x31323334 ∷ 0x41424344 ∷ 0x51525354 ∷ 0x61626364 ∷ 0x71727374 ∷ [])
    ++ (0x81 ∷ 0x82 ∷ 0x83 ∷ 0x84 ∷ [])))))

abbrev pub asks-for : ℕ → Job
asks-for flags = of-kind 6 (body-with flags 0)

abbrev pub summary : ℕ → List ℕ
summary flags = job 6 (body-with flags 0)

pub record Records : Type 0 where
  -- little-endian, each number at its own place
  pub bytes :
      (length (body-with 232 0) ≡ 38)
      × (take 14 (body-with 232 0)
      ≡ 232 ∷ 0 ∷ 0x0d ∷ 0x0c ∷ 0x0b ∷ 0x0a ∷ 0x12 ∷ 0x11 ∷ 0x14 ∷ 0x13 ∷ 0x24 ∷ 0x23 ∷ 0x22 ∷ 0x21 ∷ [])
  pub parts :
      (job_flags (asks-for 232) ≡ 232) × (job_sums (asks-for 232) ≡ the-sums) × (job_sums (asks-for 0) ≡ the-sums)
  -- 38 bytes, one less and one more; none; as many as the block has
  pub body-size :
      map (fits 6) (0 ∷ 36 ∷ 37 ∷ 38 ∷ 39 ∷ 40 ∷ 76 ∷ []) ≡ bad ∷ bad ∷ bad ∷ (Ok tt) ∷ bad ∷ bad ∷ bad ∷ []
  -- a second byte that is not 0
  pub second-byte :
      map (λ b. is_block_job (of-kind 6 (body-with 232 b))) (0 ∷ 1 ∷ 128 ∷ 255 ∷ [])
      ≡ true ∷ false ∷ false ∷ false ∷ []
  -- each flag; each reserved bit; ToH 3, alone and with others
  pub flags :
      map is_flags (0 ∷ 128 ∷ 64 ∷ 32 ∷ 16 ∷ 8 ∷ 224 ∷ 232 ∷ 240 ∷ [])
      ≡ true ∷ true ∷ true ∷ true ∷ true ∷ true ∷ true ∷ true ∷ true ∷ []
  pub no-flags :
      map is_flags (1 ∷ 2 ∷ 4 ∷ 7 ∷ 233 ∷ 234 ∷ 236 ∷ 24 ∷ 248 ∷ 255 ∷ [])
      ≡ false ∷ false ∷ false ∷ false ∷ false ∷ false ∷ false ∷ false ∷ false ∷ false ∷ []
  pub good :
      map (λ f. is_block_job (asks-for f)) (0 ∷ 232 ∷ 240 ∷ 1 ∷ 2 ∷ 4 ∷ 24 ∷ 248 ∷ [])
      ≡ true ∷ true ∷ true ∷ false ∷ false ∷ false ∷ false ∷ false ∷ []
  -- 12 with its own index; a kind of which the low byte alone is 6
  pub twelve :
      (fault (header 0 ++ (summary 232 ++ summary 0)) ≡ Ok tt)
      × (fault (header 0 ++ (summary 232 ++ (summary 24 ++ summary 1))) ≡ at-record 2)
      × (fault (summary 232) ≡ at-record 0) × (fault (header 0 ++ job 262 (body-with 232 0)) ≡ at-record 1)
      × (fault (header 0 ++ take 43 (summary 232)) ≡ at-record 1)

-- what a record asks, and its bytes
pub record Written : Type 0 where
  -- a number whose flag is clear is asked as absent, whatever it is
  pub asked :
      map (λ f. asked_of (asks-for f)) (232 ∷ 0 ∷ 240 ∷ 104 ∷ 168 ∷ 200 ∷ [])
      ≡ summed full ∷ summed empty ∷ summed (with-numbers lost twice jitter hops)
      ∷ summed (with-numbers None twice jitter ttl) ∷ summed (with-numbers lost None jitter ttl)
      ∷ summed (with-numbers lost twice None ttl) ∷ []
  -- 40 bytes in both layouts; every number as given, its flag set or clear
  pub numbers : sums_bytes the-sums ≡ rows nine_words
  pub block :
      (block_bytes Plain (asks-for 232) ≡ a_block 232) × (block_bytes Careful (asks-for 232) ≡ a_block 232)
      × (block_bytes Plain (asks-for 0) ≡ a_block 0) × (block_bytes Careful (asks-for 80) ≡ a_block 80)
      × (length (block_bytes Plain (asks-for 0)) ≡ 40)
  -- what is written is shown as asked
  pub round_trip :
      (record_of Standard (block_bytes Plain (asks-for 232)) ≡ Ok (asked_of (asks-for 232)))
      × (record_of Standard (block_bytes Plain (asks-for 0)) ≡ Ok (asked_of (asks-for 0)))
      × (record_of Standard (block_bytes Careful (asks-for 112)) ≡ Ok (asked_of (asks-for 112)))
  pub packets :
      (packet_of Plain (header 0 ++ summary 232) ≡ Ok (packet (words-with 232)))
      × (packet_of Careful (header 0 ++ (summary 0 ++ summary 240)) ≡ Ok (packet (words-with 0 ++ words-with 240)))
      × (packet_of Plain (header 4 ++ summary 16) ≡ Ok (padded (words-with 16 ++ (4 ∷ []))))

-- the numbers of `full`, of another span
abbrev pub of-span : ℕ → ℕ → ℕ → Summary
of-span s b e = record {
  ssrc = s;
  begin = b;
  end = e;
  lost = lost;
  duplicates = twice;
  jitter = jitter;
  hops = ttl;
}

abbrev pub four-hops : ℕ → ℕ → ℕ → ℕ → Record
four-hops a b c d = summed (with-numbers lost twice jitter (Ttl (byte_spread a b c d)))

abbrev pub four-jitter : ℕ → ℕ → ℕ → ℕ → Record
four-jitter a b c d = summed (with-numbers lost twice (Some (spread a b c d)) ttl)

-- what a block shows, and when two show the same
pub record Shown : Type 0 where
  -- the standard: the summary, or 7 with 40 and L; the crate: type and length only, whatever its length is
  pub standard :
      (record_of Standard (a_block 232) ≡ Ok (summed full)) × (record_of Standard (a_block 7) ≡ Ok (summed empty))
      × (record_of Standard too_short ≡ Err (BadBlockLength 40 36))
      × (record_of Standard too_long ≡ Err (BadBlockLength 40 44))
  pub crate :
      (record_of Crate (a_block 232) ≡ Ok bare) × (record_of Crate too_short ≡ Ok bare)
      × (record_of Crate (rows (0x06000000 ∷ [])) ≡ Ok bare)
  -- in a row: its type, the span, each number behind a 1, a 0 for what is absent, and ToH
  pub in_a_row :
      (numbers_row (summed full)
      ≡ 6 ∷ 0x0a0b0c0d ∷ 0x1112 ∷ 0x1314 ∷ 1 ∷ 0x21222324 ∷ 1 ∷ 0x31323334 ∷ 1 ∷ 0x41424344 ∷ 0x51525354
      ∷ 0x61626364 ∷ 0x71727374 ∷ 1 ∷ 0x81 ∷ 0x82 ∷ 0x83 ∷ 0x84 ∷ [])
      × (numbers_row (summed empty) ≡ 6 ∷ 0x0a0b0c0d ∷ 0x1112 ∷ 0x1314 ∷ 0 ∷ 0 ∷ 0 ∷ 0 ∷ [])
      × (numbers_row (summed (with-numbers None None None Unknown))
      ≡ 6 ∷ 0x0a0b0c0d ∷ 0x1112 ∷ 0x1314 ∷ 0 ∷ 0 ∷ 0 ∷ 3 ∷ [])
      × (numbers_row (summed (with-numbers None None None (HopLimit (byte_spread 5 6 7 8))))
      ≡ 6 ∷ 0x0a0b0c0d ∷ 0x1112 ∷ 0x1314 ∷ 0 ∷ 0 ∷ 0 ∷ 2 ∷ 5 ∷ 6 ∷ 7 ∷ 8 ∷ [])
  pub itself :
      (same_record (summed full) (summed full) ≡ true) × (same_record (summed empty) (summed empty) ≡ true)
      × (same_record (summed full) (summed (of-span 0x0a0b0c0d 0x1112 0x1314)) ≡ true)
  -- SSRC, begin, end, lost, duplicates
  pub differ :
      map (same_record (summed full))
      (summed (of-span 1 0x1112 0x1314) ∷ summed (of-span 0x0a0b0c0d 1 0x1314) ∷ summed (of-span 0x0a0b0c0d 0x1112 1)
      ∷ summed (with-numbers (Some 1) twice jitter ttl) ∷ summed (with-numbers lost (Some 1) jitter ttl) ∷ [])
      ≡ false ∷ false ∷ false ∷ false ∷ false ∷ []
  -- each of four numbers of jitter, and of four of TTL
  pub fours-differ :
      (map (same_record (four-jitter 1 2 3 4))
      (four-jitter 1 2 3 4 ∷ four-jitter 9 2 3 4 ∷ four-jitter 1 9 3 4 ∷ four-jitter 1 2 9 4 ∷ four-jitter 1 2 3 9 ∷ [])
      ≡ true ∷ false ∷ false ∷ false ∷ false ∷ [])
      × (map (same_record (four-hops 1 2 3 4))
      (four-hops 1 2 3 4 ∷ four-hops 9 2 3 4 ∷ four-hops 1 9 3 4 ∷ four-hops 1 2 9 4 ∷ four-hops 1 2 3 9 ∷ [])
      ≡ true ∷ false ∷ false ∷ false ∷ false ∷ [])
  -- absent is not 0; the one absent is not the other
  pub absent-is-not-zero :
      map (same_record (summed (with-numbers None None None NoHops)))
      (summed (with-numbers (Some 0) None None NoHops)
      ∷ summed (with-numbers None (Some 0) None NoHops)
      ∷ summed (with-numbers None None (Some (spread 0 0 0 0)) NoHops)
      ∷ summed (with-numbers None None None (Ttl (byte_spread 0 0 0 0))) ∷ [])
      ≡ false ∷ false ∷ false ∷ false ∷ []
  pub one-absent :
      same_record (summed (with-numbers (Some 0) None None NoHops))
      (summed (with-numbers None (Some 0) None NoHops))
      ≡ false
  -- TTL is not hop limit, and ToH 0 is not 3
  pub by-toh :
      (map (same_record (summed (with-numbers lost twice jitter ttl)))
      (summed (with-numbers lost twice jitter hops) ∷ summed (with-numbers lost twice jitter Unknown) ∷ [])
      ≡ false ∷ false ∷ [])
      × (same_record (summed (with-numbers lost twice jitter NoHops)) (summed (with-numbers lost twice jitter Unknown))
      ≡ false)
  -- a summary and records of other kinds
  pub kinds-differ : map (same_record (summed empty)) (bare ∷ a-time ∷ an-echo ∷ []) ≡ false ∷ false ∷ false ∷ []

-- the crate shows type and length of it, which is no difference
pub record Misled : Type 0 where
  pub nothing-more :
      (is_bare bare ≡ true) × (is_bare (summed empty) ≡ false) × (is_bare a-time ≡ false) × (is_bare an-echo ≡ false)
  pub against-a-refusal :
      (same_shown a-time (Err (BadBlockLength 12 8)) ≡ false) × (same_shown a-time (Ok a-time) ≡ true)
      × (same_shown a-time (Ok an-echo) ≡ false)
  -- whatever the standard shows or refuses; the other way round it would be one
  pub differing :
      (differs (Ok bare) (Ok (summed full)) ≡ false)
      × (differs (Ok bare) (Err (BadBlockLength 40 36)) ≡ false)
      × (differs (Ok bare) (Ok bare) ≡ false) × (differs (Ok (summed full)) (Ok bare) ≡ true)
      × (differs (Ok (summed full)) (Ok (summed empty)) ≡ true)
      × (differs (Ok (summed full)) (Ok (summed full)) ≡ false)
      × (differs (Err (BadBlockLength 12 8)) (Ok (summed full)) ≡ false)
  pub in-a-packet :
      (misleads (packet (words-with 232)) 0 ≡ false) × (misleads (packet (0x06000008 ∷ replicate 8 1)) 0 ≡ false)
      × (misleads (packet (words-with 0 ++ words-with 232)) 1 ≡ false)
  -- alone, behind another, behind a clock, a report and an echo of which the crate shows the same
  pub careful-writes :
      (careful (summary 232) ≡ Ok (packet (words-with 232)))
      × (careful (summary 0 ++ summary 232) ≡ Ok (packet (words-with 0 ++ words-with 232)))
      × (careful (a-clock ++ summary 8)
      ≡ Ok (packet (0x04000002 ∷ 0x11223344 ∷ 0x55667788 ∷ words-with 8)))
      × (careful (report 1 10 14 0 (16387 ∷ []) ++ summary 8)
      ≡ Ok (packet (0x01000003 ∷ 7 ∷ 0x000a000e ∷ 0x40030000 ∷ words-with 8)))
      × (careful (summary 8 ++ echo-job) ≡ Ok (packet (words-with 8 ++ (0x05000003 ∷ 10 ∷ 11 ∷ 12 ∷ []))))
      × (careful (receipts 5 6 0 (100 ∷ []) ++ summary 8)
      ≡ Ok (packet (0x03000003 ∷ 7 ∷ 0x00050006 ∷ 100 ∷ words-with 8)))
  -- its bytes are taken for entries and for times: 15 with the index of the block before it
  pub fifteen :
      (careful (echo-job ++ summary 232) ≡ Err (Misleads 0))
      × (careful (summary 232 ++ (echo-job ++ summary 232)) ≡ Err (Misleads 1))
      × (careful (receipts 5 9 0 (100 ∷ []) ++ summary 232) ≡ Err (Misleads 0))
      × (packet_of Plain (header 0 ++ (echo-job ++ summary 232))
      ≡ Ok (packet (0x05000003 ∷ 10 ∷ 11 ∷ 12 ∷ words-with 232)))
  -- 12 and 14 before it
  pub order :
      (careful (echo-job ++ (summary 232 ++ summary 24)) ≡ Err (BadRecord 3))
      × (careful (echo-job ++ (summary 232 ++ times 30 four_bytes)) ≡ Err (TooMany 32 31))
