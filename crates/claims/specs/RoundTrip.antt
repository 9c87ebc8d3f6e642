-- A packet that was written, read back (RULES, "Job lists and writing").
--     Answered      what the reading functions answer, in a reading, of block k of a packet s that shows a record
--     ReadBack      what they answer of a packet s of the records js, of which the first is the header record
--     RoundTrip     and so of every packet that was written, in either layout
-- Nothing is asked of a writer but its contract; it was lent out, and left out' in it. The packet is read by the
-- standard.
use Rattle.std.specs.Prelude.{ℕ, ◌+◌, ◌<◌, ◌≡◌, List, take, Ok}
use Rattle.def_refusals.specs.Answers.{Listed}
use Rattle.def_wire.specs.declared.Reading.{Reading}
use Rattle.def_wire.specs.declared.Reading.TheVariants.{Standard}
use Rattle.def_wire.specs.declared.Ranged.TheVariants.{Chunks, Times}
use Rattle.def_wire.specs.Bytes.{byte_at}
use Rattle.def_wire.specs.Packet.{count_of}
use Rattle.def_questions.specs.Packets.{fields_asked, numbers_asked, pairs_asked, entries_asked, time_asked, summary_asked}
use Rattle.def_jobs.specs.declared.Layout.{Layout}
use Rattle.def_jobs.specs.Shown.{Record, reported, received, clocked, echoed, summed, bare}
use Rattle.def_jobs.specs.Jobs.{Job, jobs_of, sender_of, asked_of}
use Rattle.def_jobs.specs.Writing.{packet_of}
use Rattle.written.specs.Shows.{record_at, blocks_in}
use Rattle.xr.specs.Parsed.{parsed_of}

-- by its kind: `block::fields_in` and `numbers::numbers_in`; `fields_in` and `packet_receipt_time::pairs_in`;
-- `block::time_in`; `dlrr::entries_in`; `summary::summary_in`. A record of no kind is never written
abbrev pub Answered : Reading → List ℕ → ℕ → Record → Type 0
Answered r s k (reported a f l) = (fields_asked r s k (Chunks a) ≡ Ok f) × (numbers_asked r s k a ≡ Ok l)
Answered r s k (received f l) = (fields_asked r s k Times ≡ Ok f) × (pairs_asked r s k ≡ Ok l)
Answered r s k (clocked t) = time_asked r s k ≡ Ok t
Answered r s k (echoed l) = entries_asked r s k ≡ Ok l
Answered r s k (summed x) = summary_asked r s k ≡ Ok x
Answered r s k bare = ⊥

pub record ReadBack (js : List Job) (s : List ℕ) : Type 0 where
  -- `xr::count`: a block for each record but the first
  pub counted : count_of Standard s ≡ Ok (blocks_in js)
  -- `Xr::parse`: the same, and the first record's sender
  pub parsed : parsed_of Standard s ≡ Ok (record { blocks = blocks_in js; ssrc = sender_of (record_at js 0) })
  -- block k answers what record k + 1 asks
  pub answered : (k : ℕ) → k < blocks_in js → Answered Standard s k (asked_of (record_at js (k + 1)))

-- a writer that answered n for a list of bytes left a packet of n bytes that reads back
abbrev pub RoundTrip : Type 0
RoundTrip =
    (layout : Layout) (list out out' : List ℕ) (n : ℕ) → ((i : ℕ) → byte_at list i < 256)
    → Listed (packet_of layout list) out (Ok n) out' → ReadBack (jobs_of list) (take n out')
