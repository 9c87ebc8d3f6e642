-- Job lists: records of a body length (4 bytes), a kind (2) and the body, all little-endian (RULES, "Job lists
-- and writing").
--     jobs_of        the records of a list
--     jobs_fault     12, with the index of the first bad record
--     asked_of       what a record asks to be shown
use Rattle.std.specs.Prelude.{Option, Ok, Err, Some, None}
use Rattle.std.specs.Prelude.{ℕ, zero, suc, ◌+◌, ◌*◌, ◌-◌, ◌%◌, Bool, false, cond, not, ◌&&◌, List, [], ◌∷◌, length, take, drop, leb, eqb}
use Rattle.def_refusals.specs.Answers.{Or}
use Rattle.def_wire.specs.declared.Kind.{Kind}
use Rattle.def_refusals.specs.declared.Refusal.TheVariants.{BadRecord}
use Rattle.def_wire.specs.declared.Fields.{Fields}
use Rattle.def_wire.specs.Bytes.{byte_at}
use Rattle.def_wire.specs.declared.Ranged.TheVariants.{Chunks, Times}
use Rattle.def_wire.specs.declared.Kind.TheVariants.{Spans, Clock, Echoes, Statistics}
use Rattle.def_wire.specs.declared.Sums.{Sums}
use Rattle.def_wire.specs.Block.{lost_run, has, kind_of}
use Rattle.def_wire.specs.Summary.{spread, byte_spread, toh_in, summary_from}
use Rattle.def_standard.specs.Range.{range_of}
use Rattle.def_standard.specs.Standard.{numbers_of, pairs_of, echoes_of}
use Rattle.def_jobs.specs.Shown.{Record, reported, received, clocked, echoed, summed, bare}

abbrev pub le16 : List ℕ → ℕ → ℕ
le16 s at = byte_at s at + byte_at s (at + 1) * 256

abbrev pub le32 : List ℕ → ℕ → ℕ
le32 s at = le16 s at + le16 s (at + 2) * 65536

abbrev pub le64 : List ℕ → ℕ → ℕ
le64 s at = le32 s at + le32 s (at + 4) * 4294967296

-- neighbours joined two by two, the second worth b times the first
unfoldable pub pair_low : ℕ → List ℕ → List ℕ
pair_low b [] = []
pair_low b (x ∷ []) = []
pair_low b (x ∷ y ∷ rest) = (x + y * b) ∷ pair_low b rest

abbrev pub low16 : List ℕ → List ℕ
low16 s = pair_low 256 s

abbrev pub low32 : List ℕ → List ℕ
low32 s = pair_low 65536 (low16 s)

pub record Job : Type 0 where
  pub kind : ℕ
  pub body : List ℕ

abbrev pub header_kind : ℕ
header_kind = 0

-- a record that is cut short: it has a kind that no record has
abbrev pub cut_job : Job
cut_job = record { kind = 65536; body = [] }

-- six bytes and the body are there
abbrev pub is_whole : List ℕ → Bool
is_whole s = leb 6 (length s) && leb (le32 s 0) (length s - 6)

abbrev pub job_at : List ℕ → Job
job_at s = record { kind = le16 s 4; body = take (le32 s 0) (drop 6 s) }

-- the records from here on; nothing at all, or less than a whole record, counts as a cut one. Records are not empty,
-- so fuel of the list's length and one is enough
unfoldable pub jobs_from : ℕ → List ℕ → List Job
jobs_from zero s = []
jobs_from (suc fuel) s =
    cond (is_whole s)
    (job_at s ∷ cond (leb (length s) (6 + le32 s 0)) [] (jobs_from fuel (drop (6 + le32 s 0) s)))
    (cut_job ∷ [])

abbrev pub jobs_of : List ℕ → List Job
jobs_of s = jobs_from (suc (length s)) s

-- kind 0: sender SSRC (4), padding (2): 0 or a multiple of 4 up to 252
abbrev pub sender_of : Job → ℕ
sender_of j = le32 j.body 0

abbrev pub asked_padding : Job → ℕ
asked_padding j = le16 j.body 4

unfoldable pub is_header_job : Job → Bool
is_header_job j = eqb j.kind header_kind && (eqb (length j.body) 6 &&
    (eqb (asked_padding j % 4) 0 && leb (asked_padding j) 252))

-- kinds 1 to 3: SSRC (4), begin (2), end (2), thinning (2), then words or times
abbrev pub job_fields : Job → Fields
job_fields j = record {
  ssrc = le32 j.body 0;
  begin = le16 j.body 4;
  end = le16 j.body 6;
  thinning = le16
      j.body 8;
}

-- fields, a thinning of at most 15, and whole items of so many bytes
abbrev pub has_fields : Job → ℕ → Bool
has_fields j bytes = leb 10 (length j.body) && (leb (job_fields j).thinning 15 && eqb
    ((length j.body - 10) % bytes) 0)

abbrev pub job_words : Job → List ℕ
job_words j = low16 (drop 10 j.body)

abbrev pub job_times : Job → List ℕ
job_times j = low32 (drop 10 j.body)

-- kind 6: the block's specific byte (1), 0 (1), SSRC (4), begin (2), end (2), lost (4), duplicates (4), jitter (4
-- of 4), TTL or hop limit (4 of 1)
abbrev pub job_flags : Job → ℕ
job_flags j = byte_at j.body 0

abbrev pub job_sums : Job → Sums
job_sums j = record {
  ssrc = le32 j.body 2;
  begin = le16 j.body 6;
  end = le16 j.body 8;
  lost = le32 j.body 10;
  duplicates = le32 j.body 14;
  jitter = spread (le32 j.body 18) (le32 j.body 22) (le32 j.body 26) (le32 j.body 30);
  hops = byte_spread (byte_at j.body 34) (byte_at j.body 35) (byte_at j.body 36) (byte_at j.body 37);
}

-- no reserved bit is set, and ToH is not 3
abbrev pub is_flags : ℕ → Bool
is_flags flags = eqb (flags % 8) 0 && not (eqb (toh_in flags) 3)

abbrev pub has_sums : Job → Bool
has_sums j = eqb (length j.body) 38 && (eqb (byte_at j.body 1) 0 && is_flags (job_flags j))

-- a record's kind is the type number of the block that it asks for; no word may be a run of ones of no length
abbrev pub is_body : Option Kind → Job → Bool
is_body (Some (Spans (Chunks a))) j = has_fields j 2 && not (has lost_run (job_words j))
is_body (Some (Spans Times)) j = has_fields j 4
is_body (Some Clock) j = eqb (length j.body) 8
is_body (Some Echoes) j = eqb (length j.body % 12) 0
is_body (Some Statistics) j = has_sums j
is_body None j = false

unfoldable pub is_block_job : Job → Bool
is_block_job j = is_body (kind_of j.kind) j

abbrev pub is_good : ℕ → Job → Bool
is_good zero j = is_header_job j
is_good (suc i) j = is_block_job j

-- 12 with the index of the first bad record, from index i on
unfoldable pub jobs_fault : ℕ → List Job → Or (Unit {0})
jobs_fault i [] = Ok tt
jobs_fault i (j ∷ js) = cond (is_good i j) (jobs_fault (suc i) js) (Err (BadRecord i))

-- what a record asks to be shown: the standard reading of its own words
abbrev pub asked_as : Option Kind → Job → Record
asked_as (Some (Spans (Chunks a))) j = reported a (job_fields j) (numbers_of (range_of (job_fields j)) (job_words j))
asked_as (Some (Spans Times)) j = received (job_fields j) (pairs_of (range_of (job_fields j)) (job_times j))
asked_as (Some Clock) j = clocked (record { 0 = le64 j.body 0 })
asked_as (Some Echoes) j = echoed (echoes_of (low32 j.body))
asked_as (Some Statistics) j = summed (summary_from (job_flags j) (job_sums j))
asked_as None j = bare

unfoldable pub asked_of : Job → Record
asked_of j = asked_as (kind_of j.kind) j
