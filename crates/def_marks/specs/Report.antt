-- The report on marks that a packet is to hold (RULES, "Chunk words from marks"): a job list of the header record and
-- one loss record with the marks' words, and the numbers that its block is to list.
--     loss_list      the bytes of the list, of words
--     report_of      of the marks from sequence number b on
--     heard_of       the numbers of the marks that are 1
use Rattle.std.specs.Prelude.{ℕ, ◌+◌, ◌/◌, ◌%◌, List, [], ◌∷◌, ◌++◌, length, eqb}
use Rattle.def_standard.specs.Listing.{list_from}
use Rattle.def_standard.specs.Range.{circle}
use Rattle.def_jobs.specs.Layout.{bytes_of}
use Rattle.def_marks.specs.Marks.{words_of}

-- a number's bytes, little-endian
abbrev pub low2 : ℕ → List ℕ
low2 x = x % 256 ∷ x / 256 % 256 ∷ []

abbrev pub low4 : ℕ → List ℕ
low4 x = low2 x ++ low2 (x / 65536)

-- a body's length, its kind, and the body
abbrev pub record_bytes : ℕ → List ℕ → List ℕ
record_bytes kind body = low4 (length body) ++ (low2 kind ++ body)

-- kind 0: the sender, no padding
abbrev pub header_bytes : ℕ → List ℕ
header_bytes sender = record_bytes 0 (low4 sender ++ low2 0)

-- kind 1: SSRC, begin, end, a thinning of 0, the words
abbrev pub loss_bytes : ℕ → ℕ → ℕ → List ℕ → List ℕ
loss_bytes media b e ws = record_bytes 1 (low4 media ++ (low2 b ++ (low2 e ++ (low2 0 ++ bytes_of low2 ws))))

unfoldable pub loss_list : ℕ → ℕ → ℕ → ℕ → List ℕ → List ℕ
loss_list sender media b e ws = header_bytes sender ++ loss_bytes media b e ws

-- the number behind the last mark's
abbrev pub end_of : ℕ → List ℕ → ℕ
end_of b ms = (b + length ms) % circle

abbrev pub report_of : ℕ → ℕ → ℕ → List ℕ → List ℕ
report_of sender media b ms = loss_list sender media b (end_of b ms) (words_of ms)

-- mark p stands for number b + p
unfoldable pub heard_of : ℕ → List ℕ → List ℕ
heard_of b ms = list_from (λ p m. eqb m 1) (λ p m. (b + p) % circle) 0 ms
