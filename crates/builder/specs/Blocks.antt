-- The parts of a block of each kind, as the builders write them, over a record's body alone.
--     fields_in, fields_bytes     SSRC, begin, end and thinning of kinds 1 to 3, and a block's bytes down to them
--     counts_bytes, hops_bytes    a summary's lost, duplicates and jitter, and its four bytes of TTL or hop limit
--     words_block, times_block, clock_block, echoes_block, sums_block     def_jobs' `bytes_as` for a body of each kind
use Rattle.std.specs.Prelude.{ℕ, List, [], ◌∷◌, ◌++◌, length, drop}
use Rattle.def_wire.specs.declared.Fields.{Fields}
use Rattle.def_wire.specs.declared.Rle.{Rle}
use Rattle.def_wire.specs.Bytes.{byte_at, two, four, eight}
use Rattle.def_wire.specs.Block.{rle_type, receipt_type, clock_type, echo_type, summary_type}
use Rattle.def_jobs.specs.declared.Layout.{Layout}
use Rattle.def_jobs.specs.Jobs.{job_fields, job_flags, job_sums, low16, low32, le32, le64}
use Rattle.def_jobs.specs.Layout.{bytes_of, head, with_fields, words_bytes, sums_bytes}
use Rattle.jobs.specs.Places.{job_of}

abbrev pub fields_in : List ℕ → Fields
fields_in body = job_fields (job_of 1 body)

abbrev pub fields_bytes : ℕ → Fields → ℕ → List ℕ
fields_bytes type f behind = head type f.thinning behind ++ (four f.ssrc ++ (two f.begin ++ two f.end))

abbrev pub words_block : Rle → Layout → List ℕ → List ℕ
words_block a layout body = with_fields (rle_type a) (fields_in body) (words_bytes layout (low16 (drop 10 body)))

abbrev pub times_block : List ℕ → List ℕ
times_block body = with_fields receipt_type (fields_in body) (bytes_of four (low32 (drop 10 body)))

abbrev pub clock_block : List ℕ → List ℕ
clock_block body = head clock_type 0 8 ++ eight (le64 body 0)

abbrev pub echoes_block : List ℕ → List ℕ
echoes_block body = head echo_type 0 (length body) ++ bytes_of four (low32 body)

abbrev pub counts_bytes : List ℕ → List ℕ
counts_bytes body =
    four (le32 body 10) ++ (four (le32 body 14)
    ++ (four (le32 body 18) ++ (four (le32 body 22) ++ (four (le32 body 26) ++ four (le32 body 30)))))

abbrev pub hops_bytes : List ℕ → List ℕ
hops_bytes body = byte_at body 34 ∷ byte_at body 35 ∷ byte_at body 36 ∷ byte_at body 37 ∷ []

abbrev pub sums_block : List ℕ → List ℕ
sums_block body = head summary_type (job_flags (job_of 6 body)) 36 ++ sums_bytes (job_sums (job_of 6 body))
