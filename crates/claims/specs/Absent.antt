-- The absent numbers of a summary, written and read back (RULES, "Job lists and writing").
--     ByFlags        what is shown of a summary's numbers n by its flags
--     SummaryRead    so does block k of every packet that was written, where its record is of kind 6
--     ClearFlags     one such packet: numbers are given, written, and read back as absent
-- Nothing is asked of a writer but its contract; it was lent out, and left out' in it.
use Rattle.std.specs.Prelude.{ℕ, ◌+◌, ◌<◌, ◌≡◌, true, false, List, [], ◌∷◌, take, Ok, Some, None}
use Rattle.def_refusals.specs.Answers.{Listed, Or}
use Rattle.def_wire.specs.declared.Reading.TheVariants.{Standard}
use Rattle.def_wire.specs.declared.Kind.TheVariants.{Statistics}
use Rattle.def_wire.specs.declared.HopsOr.TheVariants.{NoHops, Ttl, HopLimit}
use Rattle.def_wire.specs.declared.Sums.{Sums}
use Rattle.def_wire.specs.declared.Summary.{Summary}
use Rattle.def_wire.specs.Bytes.{byte_at}
use Rattle.def_wire.specs.Block.{kind_of}
use Rattle.def_wire.specs.Summary.{byte_spread, is_set, toh_in}
use Rattle.def_questions.specs.Packets.{summary_asked}
use Rattle.def_jobs.specs.declared.Layout.{Layout}
use Rattle.def_jobs.specs.declared.Layout.TheVariants.{Plain}
use Rattle.def_jobs.specs.Jobs.{jobs_of, job_flags, job_sums}
use Rattle.def_jobs.specs.Writing.{packet_of}
use Rattle.written.specs.Shows.{record_at, blocks_in}

pub record ByFlags (flags : ℕ) (n : Sums) (x : Summary) : Type 0 where
  pub ssrc : x.ssrc ≡ n.ssrc
  pub begin : x.begin ≡ n.begin
  pub end : x.end ≡ n.end
  -- L
  pub lost : is_set 128 flags ≡ true → x.lost ≡ Some n.lost
  pub no-lost : is_set 128 flags ≡ false → x.lost ≡ None
  -- D
  pub duplicates : is_set 64 flags ≡ true → x.duplicates ≡ Some n.duplicates
  pub no-duplicates : is_set 64 flags ≡ false → x.duplicates ≡ None
  -- J
  pub jitter : is_set 32 flags ≡ true → x.jitter ≡ Some n.jitter
  pub no-jitter : is_set 32 flags ≡ false → x.jitter ≡ None
  -- ToH
  pub ttl : toh_in flags ≡ 1 → x.hops ≡ Ttl n.hops
  pub hop-limit : toh_in flags ≡ 2 → x.hops ≡ HopLimit n.hops
  pub no-hops : toh_in flags ≡ 0 → x.hops ≡ NoHops

-- an answer to `summary::summary_in`
pub record Answers (flags : ℕ) (n : Sums) (a : Or Summary) : Type 0 where
  pub summary : Summary
  pub answered : a ≡ Ok summary
  pub flagged : ByFlags flags n summary

-- of every packet of n bytes, in either layout, from a list of bytes
abbrev pub SummaryRead : Type 0
SummaryRead =
    (layout : Layout) (list out out' : List ℕ) (n : ℕ) → ((i : ℕ) → byte_at list i < 256)
    → Listed (packet_of layout list) out (Ok n) out'
    → (k : ℕ) → k < blocks_in (jobs_of list)
    → let j = record_at (jobs_of list) (k + 1) in
    kind_of j.kind ≡ Some Statistics → Answers (job_flags j) (job_sums j) (summary_asked Standard (take n out') k)

-- a header record of sender 1; a summary of SSRC 2, begin 3, end 4 with D and ToH 1 alone: 5 lost, 6 duplicates, jitter
-- 7 to 10, TTL 11 to 14
abbrev pub clear_list : List ℕ
clear_list =
    6 ∷ 0 ∷ 0 ∷ 0 ∷ 0 ∷ 0
    ∷ 1 ∷ 0 ∷ 0 ∷ 0 ∷ 0 ∷ 0
    ∷ 38 ∷ 0 ∷ 0 ∷ 0 ∷ 6 ∷ 0
    ∷ 72 ∷ 0 ∷ 2 ∷ 0 ∷ 0 ∷ 0 ∷ 3 ∷ 0 ∷ 4 ∷ 0
    ∷ 5 ∷ 0 ∷ 0 ∷ 0 ∷ 6 ∷ 0 ∷ 0 ∷ 0
    ∷ 7 ∷ 0 ∷ 0 ∷ 0 ∷ 8 ∷ 0 ∷ 0 ∷ 0 ∷ 9 ∷ 0 ∷ 0 ∷ 0 ∷ 10 ∷ 0 ∷ 0 ∷ 0
    ∷ 11 ∷ 12 ∷ 13 ∷ 14
    ∷ []

-- all of them are written
abbrev pub clear_packet : List ℕ
clear_packet =
    128 ∷ 207 ∷ 0 ∷ 11
    ∷ 0 ∷ 0 ∷ 0 ∷ 1
    ∷ 6 ∷ 72 ∷ 0 ∷ 9
    ∷ 0 ∷ 0 ∷ 0 ∷ 2
    ∷ 0 ∷ 3 ∷ 0 ∷ 4
    ∷ 0 ∷ 0 ∷ 0 ∷ 5
    ∷ 0 ∷ 0 ∷ 0 ∷ 6
    ∷ 0 ∷ 0 ∷ 0 ∷ 7
    ∷ 0 ∷ 0 ∷ 0 ∷ 8
    ∷ 0 ∷ 0 ∷ 0 ∷ 9
    ∷ 0 ∷ 0 ∷ 0 ∷ 10
    ∷ 11 ∷ 12 ∷ 13 ∷ 14
    ∷ []

-- read back, lost and jitter are absent
pub record ClearFlags : Type 0 where
  pub written : packet_of Plain clear_list ≡ Ok clear_packet
  pub read : summary_asked Standard clear_packet 0
      ≡ Ok (record {
        ssrc = 2;
        begin = 3;
        end = 4;
        lost = None;
        duplicates = Some 6;
        jitter = None;
        hops = Ttl (byte_spread 11 12 13 14);
      })
