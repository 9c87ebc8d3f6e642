-- Careful writing, and what it promises readers that keep the old reading (RULES, "Job lists and writing").
--     AsStandard     each question about block k that the crate reading answers, it answers as the standard does
--     AsShown        all that it shows of block k is what the standard shows, or type and length only of a summary
--     NotMisled      a carefully written packet misleads nobody
--     Fifteen        15 is given exactly where a block would mislead, with the index of the first
--     Unread         with padding, or without blocks, 15 never applies: the crate refuses the packet
-- That it shows the records asked, read by the standard, is RoundTrip at this layout. Nothing is asked of the writer
-- but its contract; it was lent out, and left out' in it.
use Rattle.std.specs.Prelude.{ℕ, ◌+◌, ◌*◌, ◌<◌, ◌≡◌, List, ◌⊎◌, length, take, Ok, Err}
use Rattle.def_refusals.specs.declared.Refusal.TheVariants.{TooShort, BlockTooLong, Misleads}
use Rattle.def_refusals.specs.Answers.{Listed}
use Rattle.def_wire.specs.declared.Reading.TheVariants.{Standard, Crate}
use Rattle.def_wire.specs.declared.Rle.{Rle}
use Rattle.def_wire.specs.declared.Ranged.{Ranged}
use Rattle.def_wire.specs.declared.Fields.{Fields}
use Rattle.def_wire.specs.declared.LongTime.{LongTime}
use Rattle.def_wire.specs.declared.Summary.{Summary}
use Rattle.def_wire.specs.Bytes.{byte_at}
use Rattle.def_wire.specs.Packet.{count_of}
use Rattle.def_standard.specs.declared.Receipt.{Receipt}
use Rattle.def_standard.specs.declared.Echo.{Echo}
use Rattle.def_questions.specs.Packets.{fields_asked, numbers_asked, pairs_asked, entries_asked, time_asked, summary_asked}
use Rattle.def_jobs.specs.declared.Layout.TheVariants.{Careful}
use Rattle.def_jobs.specs.Shown.{Record, summed, bare}
use Rattle.def_jobs.specs.Jobs.{jobs_of, jobs_fault, asked_padding}
use Rattle.def_jobs.specs.Layout.{layout_of}
use Rattle.def_jobs.specs.Writing.{size_fault, shown_in, packet_of}
use Rattle.written.specs.Shows.{record_at, blocks_in}

-- `block::fields_in`, `numbers::numbers_in`, `packet_receipt_time::pairs_in`, `block::time_in`, `dlrr::entries_in`,
-- `summary::summary_in` (which the crate reading never answers)
pub record AsStandard (s : List ℕ) (k : ℕ) : Type 0 where
  pub fields : (g : Ranged) (f : Fields) → fields_asked Crate s k g ≡ Ok f → fields_asked Standard s k g ≡ Ok f
  pub numbers : (a : Rle) (l : List ℕ) → numbers_asked Crate s k a ≡ Ok l → numbers_asked Standard s k a ≡ Ok l
  pub pairs : (l : List Receipt) → pairs_asked Crate s k ≡ Ok l → pairs_asked Standard s k ≡ Ok l
  pub time : (t : LongTime) → time_asked Crate s k ≡ Ok t → time_asked Standard s k ≡ Ok t
  pub entries : (l : List Echo) → entries_asked Crate s k ≡ Ok l → entries_asked Standard s k ≡ Ok l
  pub summary : (x : Summary) → summary_asked Crate s k ≡ Ok x → summary_asked Standard s k ≡ Ok x

-- of a block of which the standard shows a summary, type and length only
pub record BareSummary (s : List ℕ) (k : ℕ) (x : Record) : Type 0 where
  pub here : x ≡ bare
  pub summary : Summary
  pub there : shown_in Standard s k ≡ Ok (summed summary)

abbrev pub AsShown : List ℕ → ℕ → Type 0
AsShown s k =
    (x : Record) → shown_in Crate s k ≡ Ok x → (shown_in Standard s k ≡ Ok x) ⊎ BareSummary s k x

-- a packet that careful writing made: where the crate reading accepts it, it counts as many blocks as the list asks
-- for; what it answers of a block is a refusal, or what the standard answers; and what it shows is a refusal, all that
-- the standard shows, or type and length only of a summary
abbrev pub NotMisled : Type 0
NotMisled =
    (list out out' : List ℕ) (n : ℕ) → ((i : ℕ) → byte_at list i < 256)
    → Listed (packet_of Careful list) out (Ok n) out'
    → ((m : ℕ) → count_of Crate (take n out') ≡ Ok m → m ≡ blocks_in (jobs_of list))
    × ((k : ℕ) → AsStandard (take n out') k)
    × ((k : ℕ) → AsShown (take n out') k)

-- a list of bytes without the faults 12 and 14
pub record Judged (list : List ℕ) : Type 0 where
  pub bytes : (i : ℕ) → byte_at list i < 256
  pub good : jobs_fault 0 (jobs_of list) ≡ Ok tt
  pub fits : size_fault (blocks_in (jobs_of list)) (length (layout_of Careful (jobs_of list))) ≡ Ok tt

-- the first block of a packet that misleads is k
pub record FirstMisleading (s : List ℕ) (k : ℕ) : Type 0 where
  pub misleads : AsStandard s k → ⊥
  pub first : (i : ℕ) → i < k → AsStandard s i

-- it is refused as 15 with k exactly where block k of its careful layout is the first that misleads
abbrev pub Fifteen : Type 0
Fifteen =
    (list : List ℕ) → Judged list → (k : ℕ)
    → (packet_of Careful list ≡ Err (Misleads k) → FirstMisleading (layout_of Careful (jobs_of list)) k)
    × (FirstMisleading (layout_of Careful (jobs_of list)) k → packet_of Careful list ≡ Err (Misleads k))

-- with padding, or without blocks, it is written, and the crate reading refuses the packet: the padding's last word as
-- a block that is too long (6), or 8 bytes as too few (1)
abbrev pub Unread : Type 0
Unread =
    (list : List ℕ) → Judged list → let js = jobs_of list in
    let s = layout_of Careful js in
    let n = asked_padding (record_at js 0) in
    (0 < n → (packet_of Careful list ≡ Ok s) × (count_of Crate s ≡ Err (BlockTooLong ((n + 1) * 4) 4)))
    × (n ≡ 0 → blocks_in js ≡ 0 → (packet_of Careful list ≡ Ok s) × (count_of Crate s ≡ Err (TooShort 12 8)))
