-- Facts of def_marks: runs, vectors, the words of marks, the refusals, and the report on marks. RULES, "Chunk words
-- from marks".
use Rattle.std.specs.Prelude.{ℕ, ◌≡◌, true, false, List, [], ◌∷◌, ◌++◌, replicate, Ok, Err}
use Rattle.def_refusals.specs.declared.Refusal.TheVariants.{TooMany, BadMark, NoRoom}
use Rattle.def_refusals.specs.Answers.{Listed}
use Rattle.def_wire.specs.declared.Reading.TheVariants.{Standard, Crate}
use Rattle.def_wire.specs.declared.Rle.TheVariants.{Loss}
use Rattle.def_questions.specs.Packets.{numbers_asked}
use Rattle.def_jobs.specs.declared.Layout.TheVariants.{Plain, Careful}
use Rattle.def_jobs.specs.Writing.{packet_of}
use Rattle.def_marks.specs.Marks.{shortest_run, longest_run, max_marks, run_of, bits_of, first_mark, ahead, is_run, run_length}
use Rattle.def_marks.specs.Marks.{word_for, taken_by, words_from, words_of, count_fault, bad_from, marks_fault, marks_asked}
use Rattle.def_marks.specs.Report.{low2, low4, record_bytes, header_bytes, loss_bytes, loss_list, end_of, report_of, heard_of}
use Rattle.examples.specs.Rows.{rows}

-- n marks that are heard, and n that are not
abbrev pub heard : ℕ → List ℕ
heard n = replicate n 1

abbrev pub missed : ℕ → List ℕ
missed n = replicate n 0

-- seven times 0 1, and another 0: a vector of its own
abbrev pub by-turns : List ℕ
by-turns = 0 ∷ 1 ∷ 0 ∷ 1 ∷ 0 ∷ 1 ∷ 0 ∷ 1 ∷ 0 ∷ 1 ∷ 0 ∷ 1 ∷ 0 ∷ 1 ∷ 0 ∷ []

pub record NextWord : Type 0 where
  pub limits : (shortest_run ≡ 15) × (longest_run ≡ 16383) × (max_marks ≡ 65536)
  -- equal marks from the first on: up to the first other one, and none where the first is another
  pub in_a_row : (run_of 1 (1 ∷ 1 ∷ 0 ∷ 1 ∷ []) ≡ 2) × (run_of 0 (0 ∷ 0 ∷ 0 ∷ []) ≡ 3) × (run_of 0 (1 ∷ 0 ∷ []) ≡ 0)
      × (run_of 1 [] ≡ 0)
  -- the first mark is the highest bit; places past the end are zero, marks behind the k-th are not looked at
  pub bits : (bits_of 3 (1 ∷ 0 ∷ 1 ∷ []) ≡ 5) × (bits_of 3 (1 ∷ []) ≡ 4) × (bits_of 3 [] ≡ 0)
      × (bits_of 2 (0 ∷ 1 ∷ 1 ∷ []) ≡ 1) × (bits_of 0 (1 ∷ []) ≡ 0) × (bits_of 15 (heard 1) ≡ 16384)
  pub first : (first_mark (1 ∷ 0 ∷ []) ≡ 1) × (first_mark (0 ∷ 1 ∷ []) ≡ 0) × (first_mark [] ≡ 0)
  pub from-the-first : (ahead (0 ∷ 0 ∷ 1 ∷ 0 ∷ []) ≡ 2) × (ahead (1 ∷ 0 ∷ 0 ∷ []) ≡ 1) × (ahead [] ≡ 0)
  -- 15 are a run and 14 are not, in front of other marks too
  pub run-or-not :
      (is_run (heard 15) ≡ true) × (is_run (heard 14) ≡ false) × (is_run (missed 15) ≡ true)
      × (is_run (missed 14) ≡ false) × (is_run (heard 15 ++ missed 1) ≡ true) × (is_run (heard 14 ++ missed 20) ≡ false)
      × (is_run (0 ∷ heard 28) ≡ false)
  -- the longest run is 16,383
  pub as-long-as-can-be :
      (run_length (heard 15) ≡ 15) × (run_length (missed 40 ++ heard 3) ≡ 40) × (run_length (heard 16383) ≡ 16383)
      × (run_length (heard 16384) ≡ 16383)
  -- a run's value is the bit below the top
  pub run-word :
      (word_for (heard 15) ≡ 16399) × (word_for (missed 15) ≡ 15) × (word_for (heard 16384) ≡ 32767)
      × (word_for (missed 16384) ≡ 16383)
  -- a vector's top bit is set, and place 0 is the bit below it
  pub vector-word :
      (word_for (heard 14) ≡ 65534) × (word_for (missed 14) ≡ 32768) × (word_for (heard 1) ≡ 49152)
      × (word_for (missed 14 ++ heard 1) ≡ 32769) × (word_for by-turns ≡ 0xaaaa)
  pub taken :
      (taken_by (heard 15) ≡ 15) × (taken_by (missed 40 ++ heard 3) ≡ 40) × (taken_by (heard 16384) ≡ 16383)
      × (taken_by (heard 14) ≡ 15) × (taken_by (0 ∷ heard 28) ≡ 15)

pub record Words : Type 0 where
  -- no marks, no words
  pub none : words_of [] ≡ []
  -- a run under 15 is never made, at the end neither
  pub fifteen : (words_of (heard 15) ≡ 16399 ∷ []) × (words_of (heard 14) ≡ 65534 ∷ [])
  pub three-zeros : words_of (missed 3) ≡ 32768 ∷ []
  -- marks that a full run leaves stand in the next word
  pub over-a-run : words_of (heard 16384) ≡ 32767 ∷ 49152 ∷ []
  -- a vector takes 15 marks, though a run begins among them
  pub from-the-present-mark-on : words_of (0 ∷ heard 28) ≡ 49151 ∷ 65534 ∷ []
  -- a run ends where the marks change, and the next word begins there
  pub one-after-another : words_of (missed 20 ++ heard 16 ++ missed 1) ≡ 20 ∷ 16400 ∷ 32768 ∷ []
  pub vectors : words_of (by-turns ++ 1 ∷ 0 ∷ 1 ∷ []) ≡ 0xaaaa ∷ 0xd000 ∷ []
  -- fuel of the marks' number is enough, less than the words is not
  pub fuel : (words_from 1 (0 ∷ heard 28) ≡ 49151 ∷ []) × (words_from 0 (heard 1) ≡ []) × (words_from 1 [] ≡ [])

pub record MarksRefused : Type 0 where
  -- 14 with the number and the limit: one over, far over, and not at the limit
  pub fourteen :
      (count_fault 65536 ≡ Ok tt) × (count_fault 65537 ≡ Err (TooMany 65537 65536))
      × (count_fault 1000000 ≡ Err (TooMany 1000000 65536)) × (count_fault 0 ≡ Ok tt)
  -- 17 with the index of the first that is neither 0 nor 1
  pub seventeen :
      (bad_from 0 [] ≡ Ok tt) × (bad_from 0 (0 ∷ 1 ∷ []) ≡ Ok tt) × (bad_from 0 (2 ∷ []) ≡ Err (BadMark 0))
      × (bad_from 0 (0 ∷ 1 ∷ 2 ∷ 255 ∷ []) ≡ Err (BadMark 2)) × (bad_from 7 (1 ∷ 255 ∷ []) ≡ Err (BadMark 8))
  -- of the marks: judged over all of them
  pub judged :
      (marks_fault [] ≡ Ok tt) × (marks_fault (heard 2 ++ missed 1) ≡ Ok tt)
      × (marks_fault (heard 40 ++ (48 ∷ [])) ≡ Err (BadMark 40))
  pub at-the-limit : marks_fault (missed 65536) ≡ Ok tt
  -- 14 before 17
  pub one-over :
      (marks_fault (missed 65537) ≡ Err (TooMany 65537 65536))
      × (marks_fault (2 ∷ missed 65536) ≡ Err (TooMany 65537 65536))
  pub asked :
      (marks_asked (heard 15) ≡ Ok (16399 ∷ [])) × (marks_asked [] ≡ Ok [])
      × (marks_asked (heard 15 ++ (2 ∷ [])) ≡ Err (BadMark 15))
  -- into a lent list: 17 before 11, whose values are words needed and lent
  pub into-a-list :
      Listed (marks_asked (heard 16384)) (8 ∷ 9 ∷ 10 ∷ []) (Ok 2) (32767 ∷ 49152 ∷ 10 ∷ [])
      × Listed (marks_asked (heard 16384)) (8 ∷ []) (Err (NoRoom 2 1)) (8 ∷ [])
      × Listed (marks_asked (3 ∷ heard 16384)) (8 ∷ []) (Err (BadMark 0)) (8 ∷ [])
      × Listed (marks_asked []) [] (Ok 0) []

pub record Reports : Type 0 where
  -- little-endian
  pub low : (low2 0x1234 ≡ 0x34 ∷ 0x12 ∷ []) × (low4 0x12345678 ≡ 0x78 ∷ 0x56 ∷ 0x34 ∷ 0x12 ∷ [])
  -- the body's length, the kind, the body
  pub a-record : record_bytes 0x0102 (7 ∷ 8 ∷ []) ≡ 2 ∷ 0 ∷ 0 ∷ 0 ∷ 2 ∷ 1 ∷ 7 ∷ 8 ∷ []
  -- 6 bytes of kind 0: sender, padding 0
  pub header : header_bytes 0x0a0b0c0d ≡ 6 ∷ 0 ∷ 0 ∷ 0 ∷ 0 ∷ 0 ∷ 0x0d ∷ 0x0c ∷ 0x0b ∷ 0x0a ∷ 0 ∷ 0 ∷ []
  -- kind 1: media SSRC, begin, end, thinning 0, the words in order
  pub loss :
      loss_bytes 0x01020304 0x0506 0x0708 (0x4002 ∷ 1 ∷ [])
      ≡ 14 ∷ 0 ∷ 0 ∷ 0 ∷ 1 ∷ 0 ∷ 4 ∷ 3 ∷ 2 ∷ 1 ∷ 6 ∷ 5 ∷ 8 ∷ 7 ∷ 0 ∷ 0 ∷ 2 ∷ 0x40 ∷ 1 ∷ 0 ∷ []
  pub both-records : loss_list 9 7 1 2 (5 ∷ []) ≡ header_bytes 9 ++ loss_bytes 7 1 2 (5 ∷ [])
  -- the end wraps; a whole circle of marks ends where it began
  pub end : (end_of 10 (heard 4) ≡ 14) × (end_of 65534 (missed 4) ≡ 2) × (end_of 65535 (heard 1) ≡ 0) × (end_of 3 [] ≡ 3)
  pub whole-circle : end_of 5 (missed 65536) ≡ 5
  -- SSRCs, begin and end in their places
  pub report : report_of 9 7 65534 (heard 15) ≡ header_bytes 9 ++ loss_bytes 7 65534 13 (16399 ∷ [])
  -- numbers of the ones, in order, on the circle
  pub numbers :
      (heard_of 10 (1 ∷ 0 ∷ 1 ∷ 1 ∷ []) ≡ 10 ∷ 12 ∷ 13 ∷ []) × (heard_of 65535 (heard 3) ≡ 65535 ∷ 0 ∷ 1 ∷ [])
      × (heard_of 7 (missed 3) ≡ []) × (heard_of 7 [] ≡ [])

-- four marks from 65534 on, the third not heard: their packet, a 32-bit word to a row
abbrev pub sample : List ℕ
sample = 1 ∷ 1 ∷ 0 ∷ 1 ∷ []

abbrev pub sample-packet : List ℕ
sample-packet = rows (0x80cf0005 ∷ 1 ∷ 0x01000003 ∷ 7 ∷ 0xfffe0002 ∷ 0xe8000000 ∷ [])

-- from marks to a packet and back: in both layouts, by both readings
pub record ReportReadBack : Type 0 where
  pub word : words_of sample ≡ 0xe800 ∷ []
  pub plain : packet_of Plain (report_of 1 7 65534 sample) ≡ Ok sample-packet
  pub careful : packet_of Careful (report_of 1 7 65534 sample) ≡ Ok sample-packet
  pub standard : numbers_asked Standard sample-packet 0 Loss ≡ Ok (heard_of 65534 sample)
  pub crate : numbers_asked Crate sample-packet 0 Loss ≡ Ok (heard_of 65534 sample)
  pub heard : heard_of 65534 sample ≡ 65534 ∷ 65535 ∷ 1 ∷ []
