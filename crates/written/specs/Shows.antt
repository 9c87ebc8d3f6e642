-- A written packet read back in the standard reading (RULES, "Job lists and writing").
--     record_at     record k of a list, the header record counted; a cut one past the end
--     blocks_in     how many records ask for a block: all but the header record
--     Shows        what the packet s shows of the records js that asked for it
use Rattle.std.specs.Prelude.{ℕ, ◌+◌, ◌-◌, ◌<◌, ◌≡◌, true, List, length, get_or, Ok}
use Rattle.def_wire.specs.declared.Reading.TheVariants.{Standard}
use Rattle.def_wire.specs.Packet.{ssrc_of, count_of, view_of}
use Rattle.def_jobs.specs.declared.Layout.{Layout}
use Rattle.def_jobs.specs.Jobs.{Job, cut_job, sender_of, is_block_job, asked_of}
use Rattle.def_jobs.specs.Layout.{block_bytes, layout_of}
use Rattle.def_jobs.specs.Writing.{shown_in}

abbrev pub record_at : List Job → ℕ → Job
record_at js k = get_or js k cut_job

abbrev pub blocks_in : List Job → ℕ
blocks_in js = length js - 1

pub record Shows (layout : Layout) (js : List Job) (s : List ℕ) : Type 0 where
  -- it is the records' layout, and accepted, with one block for each record but the header record
  pub laid : s ≡ layout_of layout js
  pub counted : count_of Standard s ≡ Ok (blocks_in js)
  -- the sender's SSRC is the header record's
  pub sender : ssrc_of s ≡ sender_of (record_at js 0)
  -- record k + 1 asks for a block; block k has its bytes, and shows what it asks
  pub asks : (k : ℕ) → k < blocks_in js → is_block_job (record_at js (k + 1)) ≡ true
  pub viewed : (k : ℕ) → k < blocks_in js → view_of Standard s k ≡ Ok (block_bytes layout (record_at js (k + 1)))
  pub shows : (k : ℕ) → k < blocks_in js → shown_in Standard s k ≡ Ok (asked_of (record_at js (k + 1)))
