-- Words from heard marks, and the report made of them, read back (RULES, "Chunk words from marks").
--     Covers             what the words of marks cover, which words never come, and how many there are
--     MarksCovered       of what `marks::words` stores
--     Heard              what the reading functions answer of the packet of a report
--     ReportRead         every report is written, plain and carefully, and reads back as the numbers heard; an old
--                        reader of the careful packet shows the same
--     ReportCalls        the same of the calls one after the other: `marks::words`, `loss_list::loss_list`, a writer
-- Nothing is asked of a call but its contract; each was lent a list of its own.
use Rattle.std.specs.Prelude.{ℕ, ◌+◌, ◌/◌, ◌≤◌, ◌<◌, ◌≡◌, List, length, get_or, take, Ok}
use Rattle.def_refusals.specs.Answers.{Listed}
use Rattle.def_wire.specs.declared.Reading.{Reading}
use Rattle.def_wire.specs.declared.Reading.TheVariants.{Standard, Crate}
use Rattle.def_wire.specs.declared.Rle.TheVariants.{Loss}
use Rattle.def_wire.specs.declared.Ranged.TheVariants.{Chunks}
use Rattle.def_standard.specs.Standard.{values_of}
use Rattle.def_questions.specs.Packets.{fields_asked, numbers_asked}
use Rattle.def_jobs.specs.declared.Layout.{Layout}
use Rattle.def_jobs.specs.declared.Layout.TheVariants.{Careful}
use Rattle.def_jobs.specs.Writing.{packet_of}
use Rattle.def_marks.specs.Marks.{words_of, marks_asked}
use Rattle.def_marks.specs.Report.{loss_list, end_of, report_of, heard_of}
use Rattle.xr.specs.Parsed.{parsed_of}

pub record Covers (ms ws : List ℕ) : Type 0 where
  -- the value at position p is mark p
  pub marks : take (length ms) (values_of ws) ≡ ms
  -- every position behind the marks is zero
  pub behind : (p : ℕ) → length ms ≤ p → get_or (values_of ws) p 0 ≡ 0
  -- no word covers nothing
  pub some : (i : ℕ) → i < length ws → (get_or ws i 0 ≡ 0 → ⊥) × (get_or ws i 0 ≡ 16384 → ⊥)
  -- a word for each 15 marks, and one for the rest
  pub few : length ws ≤ (length ms + 14) / 15

-- of any marks for which it answered n
abbrev pub MarksCovered : Type 0
MarksCovered =
    (ms out out' : List ℕ) (n : ℕ) → Listed (marks_asked ms) out (Ok n) out' → Covers ms (take n out')

-- at most 65,536 bytes, each 0 or 1; SSRCs of 32 bits, and a sequence number
pub record Asked (sender media b : ℕ) (ms : List ℕ) : Type 0 where
  pub few : length ms ≤ 65536
  pub marks : (i : ℕ) → get_or ms i 0 ≤ 1
  pub sender32 : sender < 4294967296
  pub media32 : media < 4294967296
  pub begin16 : b < 65536

-- `block::fields_in` and `numbers::numbers_in` of the packet's first block
pub record Heard (r : Reading) (media b : ℕ) (ms s : List ℕ) : Type 0 where
  pub fields : fields_asked r s 0 (Chunks Loss)
      ≡ Ok (record { ssrc = media; begin = b; end = end_of b ms; thinning = 0 })
  -- exactly the numbers b + p of the marks p that are 1
  pub numbers : numbers_asked r s 0 Loss ≡ Ok (heard_of b ms)

pub record Report (layout : Layout) (sender media b : ℕ) (ms s : List ℕ) : Type 0 where
  -- `Xr::parse`: one block, and the sender
  pub parsed : parsed_of Standard s ≡ Ok (record { blocks = 1; ssrc = sender })
  pub standard : Heard Standard media b ms s
  -- an old reader, where the packet was written carefully
  pub crate : layout ≡ Careful → Heard Crate media b ms s

-- a packet that is written: `packet_of` gives it, so no refusal but 11 stands in its way, 15 neither
pub record Written (layout : Layout) (sender media b : ℕ) (ms : List ℕ) : Type 0 where
  pub packet : List ℕ
  pub written : packet_of layout (report_of sender media b ms) ≡ Ok packet
  pub read : Report layout sender media b ms packet

abbrev pub ReportRead : Type 0
ReportRead =
    (layout : Layout) (sender media b : ℕ) (ms : List ℕ) → Asked sender media b ms
    → (marks_asked ms ≡ Ok (words_of ms)) × Written layout sender media b ms

-- n words, then a list of m bytes, then a packet of k bytes
abbrev pub ReportCalls : Type 0
ReportCalls =
    (layout : Layout) (sender media b : ℕ) (ms : List ℕ) → Asked sender media b ms
    → (words words' : List ℕ) (n : ℕ) → Listed (marks_asked ms) words (Ok n) words'
    → (list list' : List ℕ) (m : ℕ)
    → Listed (Ok (loss_list sender media b (end_of b ms) (take n words'))) list (Ok m) list'
    → (out out' : List ℕ) (k : ℕ) → Listed (packet_of layout (take m list')) out (Ok k) out'
    → Report layout sender media b ms (take k out')
