-- Nothing that is made here holds a run of ones of no length, the word 16384 (RULES, "Standard reading").
--     WordsClear      of the words that `marks::words` stores
--     PacketsClear    of the words of every block of type 1 or 2 in a packet that `write::write_plain` or
--                     `write::write_careful` stores
--     ChunkClear      of the word that `chunk::write_chunk` stores
-- Nothing is asked of a call but its contract; it was lent out, and left out' in it.
use Rattle.std.specs.Prelude.{ℕ, ◌<◌, ◌≡◌, false, List, take, Ok, Some}
use Rattle.def_refusals.specs.Answers.{Listed}
use Rattle.def_wire.specs.declared.Reading.TheVariants.{Standard}
use Rattle.def_wire.specs.declared.Rle.{Rle}
use Rattle.def_wire.specs.declared.Ranged.TheVariants.{Chunks}
use Rattle.def_wire.specs.declared.Kind.TheVariants.{Spans}
use Rattle.def_wire.specs.Bytes.{byte_at, words16}
use Rattle.def_wire.specs.Packet.{view_of}
use Rattle.def_wire.specs.Block.{type_of, words_at, kind_of, lost_run, has}
use Rattle.def_standard.specs.declared.Chunk.{Chunk}
use Rattle.def_standard.specs.Chunks.{word_bytes}
use Rattle.def_jobs.specs.declared.Layout.{Layout}
use Rattle.def_jobs.specs.Writing.{packet_of}
use Rattle.def_marks.specs.Marks.{marks_asked}

-- n words from marks: none of them is it
abbrev pub WordsClear : Type 0
WordsClear =
    (ms out out' : List ℕ) (n : ℕ) → Listed (marks_asked ms) out (Ok n) out' → has lost_run (take n out') ≡ false

-- a packet of n bytes, in either layout, from a list of bytes: wherever block k is of type 1 or 2, none of its words
-- is it, the zero words behind the record's own counted
abbrev pub PacketsClear : Type 0
PacketsClear =
    (layout : Layout) (list out out' : List ℕ) (n : ℕ) → ((i : ℕ) → byte_at list i < 256)
    → Listed (packet_of layout list) out (Ok n) out'
    → (k : ℕ) (v : List ℕ) (a : Rle) → view_of Standard (take n out') k ≡ Ok v
    → kind_of (type_of v) ≡ Some (Spans (Chunks a)) → has lost_run (words_at v) ≡ false

-- one chunk word of n bytes, of any kind and any value: it is another
abbrev pub ChunkClear : Type 0
ChunkClear =
    (c : Chunk) (out out' : List ℕ) (n : ℕ) → Listed (word_bytes c) out (Ok n) out'
    → has lost_run (words16 (take n out')) ≡ false
