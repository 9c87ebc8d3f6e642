-- The dump of a packet, both readings as text (RULES, "Views, cursors and the dump"). To be read beside RULES' sample,
-- over the definitions of what each question of a block is answered in each reading.
--     list_or         a list's line, or `refused 11` in its place
--     contents_of     what stands behind a block's line
--     block_text      a block: its line, and what it shows
--     reading_text    one reading
--     dump_text       the whole
use Rattle.std.specs.Prelude.{ℕ, zero, suc, cond, List, [], ◌++◌, length, ltb, leb, Option, Ok, Err, Some, None}
use Rattle.def_wire.specs.declared.Summary.{Summary}
use Rattle.def_wire.specs.declared.LongTime.{LongTime}
use Rattle.def_wire.specs.declared.Fields.{Fields}
use Rattle.def_refusals.specs.declared.Refusal.TheVariants.{NoRoom}
use Rattle.def_refusals.specs.Answers.{Or}
use Rattle.def_wire.specs.declared.Reading.{Reading}
use Rattle.def_wire.specs.declared.Reading.TheVariants.{Standard, Crate}
use Rattle.def_wire.specs.declared.Ranged.{Ranged}
use Rattle.def_wire.specs.declared.Ranged.TheVariants.{Chunks, Times}
use Rattle.def_wire.specs.declared.Kind.{Kind}
use Rattle.def_wire.specs.declared.Kind.TheVariants.{Spans, Clock, Echoes, Statistics}
use Rattle.def_wire.specs.Packet.{place_of, view_from, count_of}
use Rattle.def_wire.specs.Block.{type_of, block_length, kind_in, check_of, fields_of, time_of}
use Rattle.def_wire.specs.Summary.{summary_of}
use Rattle.def_questions.specs.Questions.{numbers_shown, pairs_shown, entries_shown}
use Rattle.def_dump.specs.Lines.{
  refused_line,
  reading_line,
  block_line,
  fields_line,
  time_line,
  numbers_line,
  pairs_line,
  entries_line,
}
use Rattle.def_dump.specs.Summaries.{summary_lines}

-- the most items that are shown of one list
abbrev pub most_shown : ℕ
most_shown = 16384

-- the longest packet that is dumped
abbrev pub longest_dumped : ℕ
longest_dumped = 65536

-- a list's line; `refused 11` in its place where it has more items than are shown
unfoldable pub list_or : {A : Type 0} → (List A → List ℕ) → Or (List A) → List ℕ
list_or line (Ok l) = cond (leb (length l) most_shown) (line l) (refused_line (NoRoom (length l) most_shown))
list_or line (Err x) = refused_line x

-- the line of a block's fields; `refused 8` in its place
abbrev pub fields_or : Or Fields → List ℕ
fields_or (Ok f) = fields_line f
fields_or (Err x) = refused_line x

abbrev pub time_or : Or LongTime → List ℕ
time_or (Ok t) = time_line t.0
time_or (Err x) = refused_line x

abbrev pub summary_or : Or Summary → List ℕ
summary_or (Ok s) = summary_lines s
summary_or (Err x) = refused_line x

-- the list of a block of types 1 to 3: numbers, or pairs
abbrev pub ranged_list : Reading → Ranged → List ℕ → List ℕ
ranged_list r (Chunks a) v = list_or numbers_line (numbers_shown r a v)
ranged_list r Times v = list_or pairs_line (pairs_shown r v)

-- what a block of a kind shows, where it is fit to be read; v is its view
unfoldable pub contents_of : Reading → Kind → List ℕ → List ℕ
contents_of r (Spans g) v = fields_or (fields_of r g v) ++ ranged_list r g v
contents_of r Clock v = time_or (time_of r v)
contents_of r Echoes v = list_or entries_line (entries_shown r v)
contents_of r Statistics v = summary_or (summary_of r v)

-- one `refused 7` in place of all this, where it is not
abbrev pub unless_unfit : Or (Unit {0}) → List ℕ → List ℕ
unless_unfit (Ok _) text = text
unless_unfit (Err x) text = refused_line x

-- of kinds that the reading does not know, type and length only
abbrev pub kind_text : Reading → Option Kind → List ℕ → List ℕ
kind_text r (Some k) v = unless_unfit (check_of r k v) (contents_of r k v)
kind_text r None v = []

-- block k, of which v is the view: its line, and what stands behind it by its type
unfoldable pub block_text : Reading → ℕ → List ℕ → List ℕ
block_text r k v = block_line k (type_of v) (block_length v) ++ kind_text r (kind_in r (type_of v)) v

-- n blocks of the packet s from block k on
unfoldable pub blocks_text : Reading → List ℕ → ℕ → ℕ → List ℕ
blocks_text r s k zero = []
blocks_text r s k (suc n) = block_text r k (view_from r s (place_of s k)) ++ blocks_text r s (suc k) n

-- all the blocks; `refused N` alone, where the reading refuses the packet
abbrev pub counted_text : Reading → List ℕ → Or ℕ → List ℕ
counted_text r s (Ok n) = blocks_text r s 0 n
counted_text r s (Err x) = refused_line x

unfoldable pub reading_text : Reading → List ℕ → List ℕ
reading_text r s = counted_text r s (count_of r s)

-- both readings, the standard one first; the one line `refused 11`, where the packet is too long to be dumped
unfoldable pub dump_text : List ℕ → List ℕ
dump_text s =
    cond (ltb longest_dumped (length s)) (refused_line (NoRoom (length s) longest_dumped))
    (reading_line Standard ++ reading_text Standard s ++ reading_line Crate ++ reading_text Crate s)
