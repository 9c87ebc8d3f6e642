-- The packet that a job list asks for, in the plain and in the careful layout (RULES, "Job lists and writing").
use Rattle.std.specs.Prelude.{Option, Some, None}
use Rattle.std.specs.Prelude.{ℕ, zero, suc, ◌+◌, ◌*◌, ◌-◌, ◌/◌, ◌%◌, Bool, cond, List, [], ◌∷◌, ◌++◌, length, get_or, replicate, eqb}
use Rattle.def_wire.specs.declared.Kind.{Kind}
use Rattle.def_wire.specs.declared.Fields.{Fields}
use Rattle.def_wire.specs.Bytes.{two, four, eight}
use Rattle.def_wire.specs.declared.Ranged.TheVariants.{Chunks, Times}
use Rattle.def_wire.specs.declared.Kind.TheVariants.{Spans, Clock, Echoes, Statistics}
use Rattle.def_wire.specs.declared.Sums.{Sums}
use Rattle.def_wire.specs.Block.{rle_type, receipt_type, clock_type, echo_type, summary_type, kind_of}
use Rattle.def_jobs.specs.declared.Layout.{Layout}
use Rattle.def_jobs.specs.declared.Layout.TheVariants.{Plain, Careful}
use Rattle.def_jobs.specs.Jobs.{Job, low32, job_fields, job_words, job_times, sender_of, asked_padding, le64}
use Rattle.def_jobs.specs.Jobs.{job_flags, job_sums}

-- the bytes of each number in turn
abbrev pub bytes_of : (ℕ → List ℕ) → List ℕ → List ℕ
bytes_of put [] = []
bytes_of put (x ∷ xs) = put x ++ bytes_of put xs

-- the zero words behind the words: an odd count gains one; in the careful layout an even count whose last word is not
-- 0 gains two
abbrev pub is_odd : List ℕ → Bool
is_odd ws = eqb (length ws % 2) 1

abbrev pub last_word : List ℕ → ℕ
last_word ws = get_or ws (length ws - 1) 0

unfoldable pub zeros_behind : Layout → List ℕ → ℕ
zeros_behind Plain ws = cond (is_odd ws) 1 0
zeros_behind Careful ws = cond (is_odd ws) 1 (cond (eqb (last_word ws) 0) 0 2)

-- a block's four header bytes, of a block with so many bytes behind them
abbrev pub head : ℕ → ℕ → ℕ → List ℕ
head type specific behind = type ∷ specific ∷ two (behind / 4)

-- the fields behind them, and T in the specific byte
abbrev pub with_fields : ℕ → Fields → List ℕ → List ℕ
with_fields type f rest = head type f.thinning (8 + length rest)
    ++ (four f.ssrc ++ (two f.begin ++ (two f.end ++ rest)))

-- a block's words, and the zero words behind them
abbrev pub words_bytes : Layout → List ℕ → List ℕ
words_bytes layout ws = bytes_of two ws ++ replicate (2 * zeros_behind layout ws) 0

-- a summary's numbers, all of them, whatever the flags say
abbrev pub sums_bytes : Sums → List ℕ
sums_bytes n =
    four n.ssrc ++ (two n.begin ++ (two n.end ++ (four n.lost ++ (four n.duplicates
    ++ (four n.jitter.least ++ (four n.jitter.most ++ (four n.jitter.mean ++ (four n.jitter.deviation
    ++ (n.hops.least ∷ n.hops.most ∷ n.hops.mean ∷ n.hops.deviation ∷ [])))))))))

abbrev pub bytes_as : Option Kind → Layout → Job → List ℕ
bytes_as (Some (Spans (Chunks a))) layout j = with_fields (rle_type a) (job_fields j) (words_bytes layout (job_words j))
bytes_as (Some (Spans Times)) layout j = with_fields receipt_type (job_fields j) (bytes_of four (job_times j))
bytes_as (Some Clock) layout j = head clock_type 0 8 ++ eight (le64 j.body 0)
bytes_as (Some Echoes) layout j = head echo_type 0 (length j.body) ++ bytes_of four (low32 j.body)
bytes_as (Some Statistics) layout j = head summary_type (job_flags j) 36 ++ sums_bytes (job_sums j)
bytes_as None layout j = []

unfoldable pub block_bytes : Layout → Job → List ℕ
block_bytes layout j = bytes_as (kind_of j.kind) layout j

unfoldable pub blocks_bytes : Layout → List Job → List ℕ
blocks_bytes layout [] = []
blocks_bytes layout (j ∷ js) = block_bytes layout j ++ blocks_bytes layout js

-- N bytes: zeros, then N
abbrev pub padding_bytes : ℕ → List ℕ
padding_bytes zero = []
padding_bytes (suc n) = replicate n 0 ++ (suc n ∷ [])

-- version 2, and bit P where there is padding
abbrev pub first_byte : ℕ → ℕ
first_byte padding = cond (eqb padding 0) 128 160

abbrev pub packet_around : Job → List ℕ → List ℕ
packet_around h blocks =
    first_byte (asked_padding h) ∷ 207 ∷ two ((4 + length blocks + asked_padding h) / 4)
    ++ (four (sender_of h) ++ (blocks ++ padding_bytes (asked_padding h)))

-- the packet of a list of records, the first of which is the header record
unfoldable pub layout_of : Layout → List Job → List ℕ
layout_of layout [] = []
layout_of layout (h ∷ js) = packet_around h (blocks_bytes layout js)
