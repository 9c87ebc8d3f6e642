-- Facts of def_jobs' Jobs: the records of a list, 12 with the first bad one, and what a record asks.
-- RULES, "Job lists and writing".
use Rattle.std.specs.Prelude.{ℕ, ◌≡◌, Bool, true, false, List, [], ◌∷◌, ◌++◌, map, take, replicate, Ok, Err}
use Rattle.def_refusals.specs.Answers.{Or}
use Rattle.def_refusals.specs.declared.Refusal.TheVariants.{BadRecord}
use Rattle.def_wire.specs.declared.Rle.TheVariants.{Loss, Duplicate}
use Rattle.def_jobs.specs.Shown.{reported, received, clocked, echoed, bare}
use Rattle.def_jobs.specs.Jobs.{le16, le32, le64, pair_low, low16, low32, Job, header_kind, cut_job, is_whole, job_at}
use Rattle.def_jobs.specs.Jobs.{jobs_from, jobs_of, sender_of, asked_padding, is_header_job, job_fields, is_block_job, is_good}
use Rattle.def_jobs.specs.Jobs.{jobs_fault, job_words, job_times, asked_of}
use Rattle.examples.specs.Rows.{fields, le2, le4, le2s, le4s, job, header, body, report, receipts, clock, echoes}
use Rattle.examples.specs.Standard.{echo, pair}

abbrev pub nine-bytes : List ℕ
nine-bytes = 0x12 ∷ 0x34 ∷ 0x56 ∷ 0x78 ∷ 0x9a ∷ 0xbc ∷ 0xde ∷ 0xf0 ∷ 0x21 ∷ []

pub record LittleEndian : Type 0 where
  -- the first byte is worth least; at an index that is not 0; a byte past the end counts as 0
  pub of_two : (le16 nine-bytes 0 ≡ 0x3412) × (le16 nine-bytes 3 ≡ 0x9a78) × (le16 nine-bytes 8 ≡ 0x21)
  pub of_four : (le32 nine-bytes 0 ≡ 0x78563412) × (le32 nine-bytes 5 ≡ 0x21f0debc) × (le32 nine-bytes 7 ≡ 0x21f0)
  pub of-eight : (le64 nine-bytes 0 ≡ 0xf0debc9a78563412) × (le64 nine-bytes 1 ≡ 0x21f0debc9a785634)
  -- whole words only, in order
  pub pairs : (pair_low 10 (1 ∷ 2 ∷ 3 ∷ 4 ∷ 5 ∷ []) ≡ 21 ∷ 43 ∷ []) × (pair_low 10 (1 ∷ []) ≡ []) × (pair_low 10 [] ≡ [])
  pub words16 : low16 (0x12 ∷ 0x34 ∷ 0x56 ∷ 0x78 ∷ 0x9a ∷ []) ≡ 0x3412 ∷ 0x7856 ∷ []
  pub words32 : low32 nine-bytes ≡ 0x78563412 ∷ 0xf0debc9a ∷ []

abbrev pub of-kind : ℕ → List ℕ → Job
of-kind k b = record { kind = k; body = b }

-- a record that is cut short has a kind that two bytes cannot say
abbrev pub cut : Job
cut = record { kind = 65536; body = [] }

pub record Records : Type 0 where
  pub cut-kind : (cut_job ≡ cut) × (header_kind ≡ 0)
  -- six bytes, and as many more as the body length says: none needed, one needed, and one byte less than needed
  pub whole :
      (is_whole [] ≡ false) × (is_whole (0 ∷ 0 ∷ 0 ∷ 0 ∷ 0 ∷ []) ≡ false)
      × (is_whole (0 ∷ 0 ∷ 0 ∷ 0 ∷ 0 ∷ 0 ∷ []) ≡ true)
      × (is_whole (1 ∷ 0 ∷ 0 ∷ 0 ∷ 0 ∷ 0 ∷ []) ≡ false) × (is_whole (1 ∷ 0 ∷ 0 ∷ 0 ∷ 0 ∷ 0 ∷ 9 ∷ []) ≡ true)
      × (is_whole (2 ∷ 0 ∷ 0 ∷ 0 ∷ 0 ∷ 0 ∷ 9 ∷ []) ≡ false) × (is_whole (1 ∷ 0 ∷ 0 ∷ 0 ∷ 0 ∷ 0 ∷ 9 ∷ 9 ∷ []) ≡ true)
  -- a body length near 2^32 does not wrap, nor is its high half left out
  pub no_wrap :
      (is_whole (le4 0xffffffff ++ replicate 20 0) ≡ false) × (is_whole (le4 0xfffffffa ++ replicate 20 0) ≡ false)
      × (is_whole (le4 0x10000 ++ replicate 20 0) ≡ false)
  -- the kind is bytes 4 and 5, the body what follows, and no more than its length
  pub parts : job_at (2 ∷ 0 ∷ 0 ∷ 0 ∷ 0x34 ∷ 0x12 ∷ 7 ∷ 8 ∷ 9 ∷ []) ≡ of-kind 0x1234 (7 ∷ 8 ∷ [])
  -- in order; a body may be empty; nothing is left behind the last
  pub in_order :
      jobs_of (job 1 (7 ∷ []) ++ (job 2 [] ++ job 3 (8 ∷ 9 ∷ [])))
      ≡ of-kind 1 (7 ∷ []) ∷ of-kind 2 [] ∷ of-kind 3 (8 ∷ 9 ∷ []) ∷ []
  -- an empty list counts as a record, and so does a trailing cut one: under six bytes, or a body longer than the rest
  pub cut-records :
      (jobs_of [] ≡ cut ∷ []) × (jobs_of (0 ∷ []) ≡ cut ∷ [])
      × (jobs_of (job 5 [] ++ (0 ∷ 0 ∷ 0 ∷ 0 ∷ 5 ∷ [])) ≡ of-kind 5 [] ∷ cut ∷ [])
      × (jobs_of (job 5 [] ++ (2 ∷ 0 ∷ 0 ∷ 0 ∷ 5 ∷ 0 ∷ 9 ∷ [])) ≡ of-kind 5 [] ∷ cut ∷ [])
      × (jobs_of (job 5 [] ++ (le4 0xfffffffa ++ (5 ∷ 0 ∷ 9 ∷ []))) ≡ of-kind 5 [] ∷ cut ∷ [])
  -- no more records than the fuel
  pub fuel : (jobs_from 0 (job 5 []) ≡ []) × (jobs_from 1 (job 5 [] ++ job 4 []) ≡ of-kind 5 [] ∷ [])

-- a header record's body: a sender and a padding
abbrev pub sender-and : ℕ → Job
sender-and n = of-kind 0 (le4 0x01020304 ++ le2 n)

pub record HeaderRecord : Type 0 where
  -- sender at 0, padding at 4
  pub parts : (sender_of (sender-and 0x0506) ≡ 0x01020304) × (asked_padding (sender-and 0x0506) ≡ 0x0506)
  -- padding: 0, 4 and 252; no multiple of 4; 256; one whose low byte alone would do
  pub padding :
      map (λ n. is_header_job (sender-and n)) (0 ∷ 4 ∷ 8 ∷ 252 ∷ 1 ∷ 2 ∷ 3 ∷ 6 ∷ 250 ∷ 253 ∷ 254 ∷ 256 ∷ 65532 ∷ [])
      ≡ true ∷ true ∷ true ∷ true ∷ false ∷ false ∷ false ∷ false ∷ false ∷ false ∷ false ∷ false ∷ false ∷ []
  -- a body of 6 bytes, one less and one more; kind 0 alone
  pub body-size :
      map (λ n. is_header_job (of-kind 0 (replicate n 0))) (0 ∷ 5 ∷ 6 ∷ 7 ∷ []) ≡ false ∷ false ∷ true ∷ false ∷ []
  pub kind :
      map (λ k. is_header_job (of-kind k (replicate 6 0))) (0 ∷ 1 ∷ 256 ∷ 65536 ∷ [])
      ≡ true ∷ false ∷ false ∷ false ∷ []

-- whether a body of so many zero bytes is one of the kind
abbrev pub fits : ℕ → ℕ → Or (Unit {0})
fits k n = jobs_fault 1 (of-kind k (replicate n 0) ∷ [])

abbrev pub bad : Or (Unit {0})
bad = Err (BadRecord 1)

-- whether a record of a kind with these words is good
abbrev pub with-words : ℕ → List ℕ → Bool
with-words k ws = is_block_job (of-kind k (body 0 0 0 (le2s ws)))

abbrev pub lost-lists : List (List ℕ)
lost-lists =
    (16384 ∷ []) ∷ (16384 ∷ 1 ∷ []) ∷ (1 ∷ 2 ∷ 16384 ∷ []) ∷ (1 ∷ 16384 ∷ 2 ∷ [])
    ∷ (16383 ∷ 16385 ∷ 64 ∷ 32768 ∷ 49152 ∷ 0 ∷ []) ∷ (1 ∷ 0x0240 ∷ 0x0001 ∷ 0x0040 ∷ []) ∷ []

pub record BlockRecords : Type 0 where
  -- SSRC, begin, end, thinning
  pub parts :
      job_fields (of-kind 1 (le4 0x01020304 ++ (le2 0x1112 ++ (le2 0x1314 ++ (le2 0x1516 ++ (9 ∷ []))))))
      ≡ fields 0x01020304 0x1112 0x1314 0x1516
  -- kinds 1 and 2: 10 bytes and whole words
  pub words :
      (map (fits 1) (0 ∷ 9 ∷ 10 ∷ 11 ∷ 12 ∷ 14 ∷ []) ≡ bad ∷ bad ∷ (Ok tt) ∷ bad ∷ (Ok tt) ∷ (Ok tt) ∷ [])
      × (map (fits 2) (8 ∷ 9 ∷ 10 ∷ 11 ∷ 12 ∷ []) ≡ bad ∷ bad ∷ (Ok tt) ∷ bad ∷ (Ok tt) ∷ [])
  -- kind 3: 10 bytes and whole times
  pub times :
      map (fits 3) (6 ∷ 9 ∷ 10 ∷ 11 ∷ 12 ∷ 13 ∷ 14 ∷ 18 ∷ []) ≡ bad ∷ bad ∷ (Ok tt) ∷ bad ∷ bad ∷ bad ∷ (Ok tt) ∷ (Ok tt) ∷ []
  -- kind 4: 8 bytes
  pub time : map (fits 4) (0 ∷ 7 ∷ 8 ∷ 9 ∷ 16 ∷ []) ≡ bad ∷ bad ∷ (Ok tt) ∷ bad ∷ bad ∷ []
  -- kind 5: whole entries, or none
  pub entries : map (fits 5) (0 ∷ 4 ∷ 11 ∷ 12 ∷ 13 ∷ 24 ∷ []) ≡ (Ok tt) ∷ bad ∷ bad ∷ (Ok tt) ∷ bad ∷ (Ok tt) ∷ []
  -- no other kind: 0, 7, 255, and those whose low byte alone would do
  pub others :
      (map (λ k. fits k 0) (0 ∷ 7 ∷ 255 ∷ 261 ∷ 65536 ∷ []) ≡ bad ∷ bad ∷ bad ∷ bad ∷ bad ∷ [])
      × (map (λ k. fits k 6) (0 ∷ 7 ∷ []) ≡ bad ∷ bad ∷ []) × (map (λ k. fits k 12) (7 ∷ 257 ∷ []) ≡ bad ∷ bad ∷ [])
      × (map (λ k. fits k 38) (0 ∷ 7 ∷ 262 ∷ []) ≡ bad ∷ bad ∷ bad ∷ [])
  -- a thinning of 15 and of 16, in kinds 1 to 3; one whose low byte alone would do
  pub thinning :
      (map (λ t. is_block_job (of-kind 1 (body 0 0 t []))) (0 ∷ 15 ∷ 16 ∷ 256 ∷ []) ≡ true ∷ true ∷ false ∷ false ∷ [])
      × (map (λ t. is_block_job (of-kind 2 (body 0 0 t []))) (15 ∷ 16 ∷ []) ≡ true ∷ false ∷ [])
      × (map (λ t. is_block_job (of-kind 3 (body 0 0 t []))) (15 ∷ 16 ∷ []) ≡ true ∷ false ∷ [])
  -- kinds 1 and 2: a run of ones of no length alone, first, last and between; its neighbours, its bytes exchanged,
  -- with the top bit too, and nothing; its bytes across two words; in the fields
  pub lost-run :
      (map (with-words 1) lost-lists ≡ false ∷ false ∷ false ∷ false ∷ true ∷ true ∷ [])
      × (map (with-words 2) lost-lists ≡ false ∷ false ∷ false ∷ false ∷ true ∷ true ∷ [])
      × (is_block_job (of-kind 1 (body 16384 16384 0 (le2s (16385 ∷ [])))) ≡ true)
      × (is_block_job (of-kind 2 (le4 0x40004000 ++ (le2 0 ++ (le2 0 ++ le2 0)))) ≡ true)
  -- other records may have it: a time whose half it is, or that is two of it, a clock, entries
  pub lost-run-elsewhere :
      (is_block_job (of-kind 3 (body 0 9 0 (le4s (16384 ∷ 0x40000000 ∷ 0x40004000 ∷ [])))) ≡ true)
      × (is_block_job (of-kind 4 (le4s (0x40004000 ∷ 0x40004000 ∷ []))) ≡ true)
      × (is_block_job (of-kind 5 (le4s (1 ∷ 2 ∷ 0x40004000 ∷ 0x40004000 ∷ 16384 ∷ 16384 ∷ []))) ≡ true)
  -- index 0 is the header record's place, and every other a block's
  pub places :
      (is_good 0 (sender-and 0) ≡ true) × (is_good 1 (sender-and 0) ≡ false) × (is_good 0 (of-kind 5 []) ≡ false)
      × (is_good 1 (of-kind 5 []) ≡ true) × (is_good 2 (of-kind 5 []) ≡ true)

abbrev pub fault : List ℕ → Or (Unit {0})
fault list = jobs_fault 0 (jobs_of list)

abbrev pub at-record : ℕ → Or (Unit {0})
at-record i = Err (BadRecord i)

-- 12, over the whole list, with the index of the first bad record, the header record counted
pub record Twelve : Type 0 where
  pub none :
      (fault (header 0) ≡ Ok tt) × (fault (header 252 ++ (clock 1 2 ++ (echoes [] ++ report 2 1 2 15 []))) ≡ Ok tt)
  -- an empty list, and a first record of another kind: 0
  pub at-0 :
      (fault [] ≡ at-record 0) × (fault (clock 1 2) ≡ at-record 0) × (fault (clock 1 2 ++ header 0) ≡ at-record 0)
      × (fault (header 2) ≡ at-record 0) × (fault (take 11 (header 0)) ≡ at-record 0)
  -- a second kind 0: its own index
  pub second-header :
      (fault (header 0 ++ header 0) ≡ at-record 1) × (fault (header 0 ++ (clock 1 2 ++ header 0)) ≡ at-record 2)
  -- a trailing cut record: the index after the last
  pub trailing :
      (fault (header 0 ++ (0 ∷ [])) ≡ at-record 1)
      × (fault (header 0 ++ (clock 1 2 ++ take 13 (clock 1 2))) ≡ at-record 2)
  -- the first of two
  pub first :
      (fault (header 0 ++ (clock 1 2 ++ (job 6 [] ++ (job 7 [] ++ clock 1 2)))) ≡ at-record 2)
      × (fault (job 6 [] ++ job 7 []) ≡ at-record 0)
  -- a run of ones of no length: its record's index, behind an earlier bad record and before a later one
  pub lost-run :
      (fault (header 0 ++ report 1 10 14 0 (16386 ∷ 16384 ∷ [])) ≡ at-record 1)
      × (fault (header 0 ++ (clock 1 2 ++ report 2 10 14 0 (16384 ∷ []))) ≡ at-record 2)
      × (fault (header 0 ++ (job 6 [] ++ report 1 10 14 0 (16384 ∷ []))) ≡ at-record 1)
      × (fault (header 0 ++ (report 1 10 14 0 (16384 ∷ []) ++ job 6 [])) ≡ at-record 1)
      × (fault (header 0 ++ (report 1 1 4 0 (1 ∷ []) ++ (report 1 1 4 0 (16384 ∷ []) ++ report 1 1 4 0 (16384 ∷ []))))
      ≡ at-record 2)
      × (fault (header 2 ++ report 1 10 14 0 (16384 ∷ [])) ≡ at-record 0)
      × (fault (header 0 ++ (report 1 10 14 0 (16385 ∷ []) ++ receipts 5 9 0 (16384 ∷ []))) ≡ Ok tt)
  -- records from an index on
  pub from-here : (jobs_fault 5 [] ≡ Ok tt) × (jobs_fault 5 (of-kind 5 [] ∷ of-kind 6 [] ∷ []) ≡ Err (BadRecord 6))

-- what a record asks to be shown: the standard reading of its own words
pub record Asked : Type 0 where
  pub words : job_words (of-kind 1 (body 1 2 3 (0x12 ∷ 0x34 ∷ 0x56 ∷ 0x78 ∷ []))) ≡ 0x3412 ∷ 0x7856 ∷ []
  pub times : job_times (of-kind 3 (body 1 2 3 (0x12 ∷ 0x34 ∷ 0x56 ∷ 0x78 ∷ []))) ≡ 0x78563412 ∷ []
  pub loss :
      asked_of (of-kind 1 (body 10 15 1 (2 ∷ 0x40 ∷ 2 ∷ 0x40 ∷ [])))
      ≡ reported Loss (fields 7 10 15 1) (10 ∷ 12 ∷ 14 ∷ [])
  pub duplicate :
      asked_of (of-kind 2 (body 10 12 0 (3 ∷ 0x40 ∷ []))) ≡ reported Duplicate (fields 7 10 12 0) (10 ∷ 11 ∷ [])
  pub receipt-times :
      asked_of (of-kind 3 (body 5 7 0 (le4s (100 ∷ 200 ∷ 300 ∷ []))))
      ≡ received (fields 7 5 7 0) (pair 5 100 ∷ pair 6 200 ∷ [])
  -- begin off the grid: from the first number on it, of each kind; begin itself as it was given
  pub off-the-grid :
      (asked_of (of-kind 1 (body 5 20 2 (le2s (16388 ∷ []))))
      ≡ reported Loss (fields 7 5 20 2) (8 ∷ 12 ∷ 16 ∷ []))
      × (asked_of (of-kind 2 (body 65533 10 2 (le2s (16385 ∷ 16385 ∷ []))))
      ≡ reported Duplicate (fields 7 65533 10 2) (0 ∷ 4 ∷ []))
      × (asked_of (of-kind 3 (body 5 20 2 (le4s (100 ∷ 200 ∷ 300 ∷ 400 ∷ []))))
      ≡ received (fields 7 5 20 2) (pair 8 100 ∷ pair 12 200 ∷ pair 16 300 ∷ []))
  -- nothing where end comes before it
  pub none-on-the-grid :
      (asked_of (of-kind 1 (body 5 8 2 (le2s (16388 ∷ [])))) ≡ reported Loss (fields 7 5 8 2) [])
      × (asked_of (of-kind 3 (body 5 8 2 (le4s (100 ∷ [])))) ≡ received (fields 7 5 8 2) [])
      × (asked_of (of-kind 3 (body 5 9 2 (le4s (100 ∷ [])))) ≡ received (fields 7 5 9 2) (pair 8 100 ∷ []))
  -- eight bytes are one number
  pub time : asked_of (of-kind 4 (8 ∷ 7 ∷ 6 ∷ 5 ∷ 4 ∷ 3 ∷ 2 ∷ 1 ∷ [])) ≡ clocked (record { 0 = 0x0102030405060708 })
  pub entries : asked_of (of-kind 5 (le4s (1 ∷ 2 ∷ 3 ∷ 4 ∷ 5 ∷ 6 ∷ []))) ≡ echoed (echo 1 2 3 ∷ echo 4 5 6 ∷ [])
  pub other : (asked_of (of-kind 0 (9 ∷ [])) ≡ bare) × (asked_of (of-kind 7 (9 ∷ [])) ≡ bare)
