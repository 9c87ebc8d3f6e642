-- A summary's numbers whose flags are clear are written, and read back as absent. Assumes nothing.
--     summary-read, clear-flags     the claims
use Rattle.std.specs.Prelude.{Ok, Some}
use Prim.Native.Nat.{ℕ, ◌+◌}
use mathlib.Core.Path.{◌≡◌, refl}
use mathlib.Core.List.{List}
use lib.ListN.{take}
use Rattle.def_wire.specs.declared.Reading.TheVariants.{Standard}
use Rattle.def_wire.specs.declared.Kind.TheVariants.{Statistics}
use Rattle.def_wire.specs.declared.Sums.{Sums}
use Rattle.def_wire.specs.Packet.{header_of, place_of, walk_from, count_of, locate}
use Rattle.def_wire.specs.Block.{rle_of, ranged_of, kind_of, standard_rule, fitness, check_of}
use Rattle.def_wire.specs.Summary.{summary_from, summary_of}
use Rattle.def_questions.specs.Packets.{summary_asked}
use Rattle.def_jobs.specs.Jobs.{Job, jobs_from, jobs_of, is_header_job, is_block_job, jobs_fault, job_flags, job_sums, asked_of}
use Rattle.def_jobs.specs.Layout.{block_bytes, blocks_bytes, layout_of}
use Rattle.def_jobs.specs.Writing.{write_fault, packet_of}
use Rattle.written.specs.Shows.{record_at}
use Rattle.claims.specs.RoundTrip.{Answered}
use Rattle.claims.specs.Absent.{ByFlags, SummaryRead, ClearFlags}
use Rattle.claims.proofs.RoundTrip.{round_trip}

by_flags : (flags : ℕ) (n : Sums) → ByFlags flags n (summary_from flags n)
unfolding summary_from
by_flags flags n =
    record {
      ssrc = refl;
      begin = refl;
      end = refl;
      lost = λ e. rw e;
      no-lost = λ e. rw e;
      duplicates = λ e. rw e;
      no-duplicates = λ e. rw e;
      jitter = λ e. rw e;
      no-jitter = λ e. rw e;
      ttl = λ e. rw e;
      hop-limit = λ e. rw e;
      no-hops = λ e. rw e;
    }

-- what a record of kind 6 asks
asks : (s : List ℕ) (k : ℕ) (j : Job) → kind_of j.kind ≡ Some Statistics → Answered Standard s k (asked_of j)
    → summary_asked Standard s k ≡ Ok (summary_from (job_flags j) (job_sums j))
unfolding asked_of
asks s k j e a = rw e at a

pub summary-read : SummaryRead
summary-read layout list out out' n b p k l e =
    let j = record_at (jobs_of list) (k + 1) in
    record {
      summary = summary_from (job_flags j) (job_sums j);
      answered = asks (take n out') k j e ((round_trip layout list out out' n b p).answered k l);
      flagged = by_flags (job_flags j) (job_sums j);
    }

pub clear-flags : ClearFlags
unfolding header_of place_of walk_from count_of locate rle_of ranged_of kind_of standard_rule fitness check_of summary_from
    summary_of summary_asked jobs_from is_header_job is_block_job jobs_fault block_bytes blocks_bytes layout_of write_fault packet_of
clear-flags = record { written = refl; read = refl }
