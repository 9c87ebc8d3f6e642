-- What xrprobe answers to a request: its kind and its payload p. To be read beside the table of README, "xrprobe":
-- from `dump_reply` on, each group of definitions begins with its row. Numbers in a payload are little-endian (`le32`).
--     Reply          text lines, or `cut`
--     line_in         a list's line in so much room, else the refusal's
--     answer_to       the reply to a request
use Rattle.std.specs.Prelude.{Ok, Err}
use Rattle.std.specs.Prelude.{ℕ, zero, suc, ◌+◌, ◌*◌, ◌-◌, min, Bool, true, false, cond, List, [], ◌∷◌, ◌++◌, length, take, drop, leb, eqb}
use Rattle.def_wire.specs.declared.Summary.{Summary}
use Rattle.def_wire.specs.declared.LongTime.{LongTime}
use Rattle.def_wire.specs.declared.Fields.{Fields}
use Rattle.def_refusals.specs.declared.Refusal.TheVariants.{NoRoom}
use Rattle.def_refusals.specs.Answers.{Or}
use Rattle.def_wire.specs.declared.Reading.{Reading}
use Rattle.def_wire.specs.declared.Reading.TheVariants.{Standard, Crate}
use Rattle.def_wire.specs.declared.Rle.{Rle}
use Rattle.def_wire.specs.Bytes.{byte_at}
use Rattle.def_wire.specs.Packet.{count_of, ssrc_of, locate, part, view_of}
use Rattle.def_wire.specs.Block.{header_data, fields_at, rle_of}
use Rattle.def_standard.specs.declared.Chunk.{Chunk}
use Rattle.def_standard.specs.declared.Chunk.TheVariants.{Null, Skip, Run, Vector}
use Rattle.def_standard.specs.Chunks.{word_bytes}
use Rattle.def_standard.specs.Range.{range_of}
use Rattle.def_standard.specs.Standard.{standard_words}
use Rattle.def_questions.specs.Packets.{pairs_asked, entries_asked, time_asked, summary_asked}
use Rattle.def_questions.specs.ByNumber.{numbers_by, words_by, fields_by, on_rle, not_served}
use Rattle.def_cursor.specs.declared.Cursor.{Cursor}
use Rattle.def_cursor.specs.declared.Stretch.{Stretch}
use Rattle.def_cursor.specs.Cursor.{cursor, advance_fault, stretch_of, listed_by}
use Rattle.def_jobs.specs.declared.Layout.{Layout}
use Rattle.def_jobs.specs.declared.Layout.TheVariants.{Plain, Careful}
use Rattle.def_jobs.specs.Jobs.{le16, le32}
use Rattle.def_jobs.specs.Writing.{packet_of}
use Rattle.def_marks.specs.Marks.{marks_asked}
use Rattle.def_portions.specs.Calls.{Call, call_of}
use Rattle.def_dump.specs.EventLines.{event_lines, given_line}
use Rattle.def_dump.specs.Lines.{refusal_line, fields_line, time_line, numbers_line, words_line, pairs_line, entries_line}
use Rattle.def_dump.specs.Lines.{taken_line, word_line, blocks_line, view_line, packet_line}
use Rattle.def_dump.specs.Summaries.{summary_lines}
use Rattle.def_dump.specs.Dump.{dump_text}

-- text lines, which a line `.` follows; or the request is none that is served, and the run ends with the line `cut`
pub data Reply : Type 0 where
  told : List ℕ → Reply
  cut : Reply

abbrev pub reply_text : Reply → List ℕ
reply_text (told text) = text
reply_text cut = []

abbrev pub is_told : Reply → Bool
is_told (told text) = true
is_told cut = false

-- a payload of at least n bytes
abbrev pub at_least : ℕ → List ℕ → Reply → Reply
at_least n p reply = cond (leb n (length p)) reply cut

-- a byte that is at most n
abbrev pub at_most : ℕ → ℕ → Reply → Reply
at_most n b reply = cond (leb b n) reply cut

-- a reading, 0 or 1, is a payload's first byte
abbrev pub reading_first : List ℕ → Reading
reading_first p = cond (eqb (byte_at p 0) 0) Standard Crate

-- the most room that is lent: to a list, to a packet, to a chunk word
abbrev pub most_listed : ℕ
most_listed = 16384

abbrev pub most_written : ℕ
most_written = 262144

abbrev pub most_made : ℕ
most_made = 8

-- a list's line, where the room is enough for it; else 11 with the room needed and the room lent, or why there is none
unfoldable pub line_in : {A : Type 0} → ℕ → (List A → List ℕ) → Or (List A) → List ℕ
line_in room line (Ok l) = cond (leb (length l) room) (line l) (refusal_line (NoRoom (length l) room))
line_in room line (Err x) = refusal_line x

-- 1: packet. What xrdump prints
abbrev pub dump_reply : List ℕ → Reply
dump_reply p = told (dump_text p)

-- 2, 9 and 14: reading (1), block (4), asked type (1), room (4), packet
abbrev pub list_room : List ℕ → ℕ → ℕ
list_room p at = min (le32 p at) most_listed

unfoldable pub numbers_text : List ℕ → List ℕ
numbers_text p = line_in (list_room p 6) numbers_line (numbers_by (reading_first p) (drop 10 p) (le32 p 1) (byte_at p 5))

unfoldable pub words_text : List ℕ → List ℕ
words_text p = line_in (list_room p 6) words_line (words_by (reading_first p) (drop 10 p) (le32 p 1) (byte_at p 5))

unfoldable pub pairs_text : List ℕ → List ℕ
pairs_text p = line_in (list_room p 6) pairs_line (pairs_asked (reading_first p) (drop 10 p) (le32 p 1))

unfoldable pub entries_text : List ℕ → List ℕ
entries_text p = line_in (list_room p 6) entries_line (entries_asked (reading_first p) (drop 10 p) (le32 p 1))

-- 2: `numbers ..` of types 1 and 2, `pairs ..` of 3, `entries ..` of 5; other types are not served
unfoldable pub typed_reply : ℕ → List ℕ → Reply
typed_reply t p =
    cond (eqb t 1) (told (numbers_text p))
    (cond (eqb t 2) (told (numbers_text p))
    (cond (eqb t 3) (told (pairs_text p))
    (cond (eqb t 5) (told (entries_text p)) cut)))

unfoldable pub list_reply : List ℕ → Reply
list_reply p = at_least 10 p (at_most 1 (byte_at p 0) (typed_reply (byte_at p 5) p))

-- 9: `words ..`, of any asked type
unfoldable pub words_reply : List ℕ → Reply
words_reply p = at_least 10 p (at_most 1 (byte_at p 0) (told (words_text p)))

-- 14: `numbers ..`, of any asked type
unfoldable pub numbers_reply : List ℕ → Reply
numbers_reply p = at_least 10 p (at_most 1 (byte_at p 0) (told (numbers_text p)))

-- 3: reading (1), block (4), asked type (1: 4 asks the time, any other byte the fields), packet
abbrev pub fields_told : Or Fields → List ℕ
fields_told (Ok f) = fields_line f
fields_told (Err x) = refusal_line x

abbrev pub time_told : Or LongTime → List ℕ
time_told (Ok t) = time_line t.0
time_told (Err x) = refusal_line x

unfoldable pub shown_text : List ℕ → List ℕ
shown_text p =
    cond (eqb (byte_at p 5) 4) (time_told (time_asked (reading_first p) (drop 6 p) (le32 p 1)))
    (fields_told (fields_by (reading_first p) (drop 6 p) (le32 p 1) (byte_at p 5)))

unfoldable pub shown_reply : List ℕ → Reply
shown_reply p = at_least 6 p (at_most 1 (byte_at p 0) (told (shown_text p)))

-- 4: block (4), asked type (1), word (4), place (4), position (4), budget (4), room (4), packet. The steps taken and
-- the next cursor, then the numbers that the steps list; of the standard reading
abbrev pub stretch_told : Or (Unit {0}) → Stretch → List ℕ → List ℕ
stretch_told (Ok _) t l = taken_line t.taken t.next ++ numbers_line l
stretch_told (Err x) t l = refusal_line x

unfoldable pub stretch_on : Rle → List ℕ → Cursor → ℕ → ℕ → List ℕ
stretch_on a v c budget room =
    stretch_told (advance_fault a v c budget room) (stretch_of (range_of (fields_at v)) (standard_words v) c budget)
    (listed_by (range_of (fields_at v)) (standard_words v) budget c)

abbrev pub on_view_text : Or (List ℕ) → (List ℕ → List ℕ) → List ℕ
on_view_text (Ok v) f = f v
on_view_text (Err x) f = refusal_line x

unfoldable pub stretch_in : List ℕ → ℕ → ℕ → Cursor → ℕ → ℕ → List ℕ
stretch_in s k t c budget room =
    on_view_text (view_of Standard s k)
    (λ v. on_rle (rle_of t) (λ a. stretch_on a v c budget room) (refusal_line (not_served v)))

unfoldable pub stretch_text : List ℕ → List ℕ
stretch_text p =
    stretch_in (drop 25 p) (le32 p 0) (byte_at p 4) (cursor (le32 p 5) (le32 p 9) (le32 p 13)) (le32 p 17)
    (list_room p 21)

unfoldable pub stretch_reply : List ℕ → Reply
stretch_reply p = at_least 25 p (told (stretch_text p))

-- 5 (plain) and 6 (careful): room (4), job list. The packet's bytes
unfoldable pub written_text : Layout → List ℕ → List ℕ
written_text layout p = line_in (min (le32 p 0) most_written) packet_line (packet_of layout (drop 4 p))

unfoldable pub written_reply : Layout → List ℕ → Reply
written_reply layout p = at_least 4 p (told (written_text layout p))

-- 7: kind of word (1: 0 null, 1 zeros, 2 ones, 3 vector), value (4), room (4), and nothing behind it. The word's two
-- bytes
unfoldable pub chunk_asked : ℕ → ℕ → Chunk
chunk_asked k value = cond (eqb k 0) Null (cond (eqb k 1) (Skip value) (cond (eqb k 2) (Run value) (Vector value)))

abbrev pub word_told : List ℕ → List ℕ
word_told bytes = word_line (byte_at bytes 0) (byte_at bytes 1)

unfoldable pub made_text : List ℕ → List ℕ
made_text p = line_in (min (le32 p 5) most_made) word_told (word_bytes (chunk_asked (byte_at p 0) (le32 p 1)))

unfoldable pub made_reply : List ℕ → Reply
made_reply p = cond (eqb (length p) 9) (at_most 3 (byte_at p 0) (told (made_text p))) cut

-- 8: reading (1), packet. How many blocks it has, and who sent it
abbrev pub blocks_told : List ℕ → Or ℕ → List ℕ
blocks_told s (Ok n) = blocks_line n (ssrc_of s)
blocks_told s (Err x) = refusal_line x

unfoldable pub parsed_text : List ℕ → List ℕ
parsed_text p = blocks_told (drop 1 p) (count_of (reading_first p) (drop 1 p))

unfoldable pub parsed_reply : List ℕ → Reply
parsed_reply p = at_least 1 p (at_most 1 (byte_at p 0) (told (parsed_text p)))

-- 10: room (4), marks (a byte each). The words made from the marks
unfoldable pub marks_text : List ℕ → List ℕ
marks_text p = line_in (list_room p 0) words_line (marks_asked (drop 4 p))

unfoldable pub marks_reply : List ℕ → Reply
marks_reply p = at_least 4 p (told (marks_text p))

-- 11: reading (1), block (4), packet. Where the block's view lies, how long it is, and its four header bytes
abbrev pub view_told : List ℕ → Or (ℕ × ℕ) → List ℕ
view_told s (Ok (at, n)) = view_line at n (header_data (part s at n))
view_told s (Err x) = refusal_line x

unfoldable pub view_text : List ℕ → List ℕ
view_text p = view_told (drop 5 p) (locate (reading_first p) (drop 5 p) (le32 p 1))

unfoldable pub view_reply : List ℕ → Reply
view_reply p = at_least 5 p (at_most 1 (byte_at p 0) (told (view_text p)))

-- 12: room (4), n (2), n sizes (4 each), bytes. One call for each size, each from the first byte that no call has taken
-- on, and one more for what is then left: for each its events' lines, then what it took, or its refusal
unfoldable pub sizes_at : List ℕ → ℕ → ℕ → List ℕ
sizes_at p at zero = []
sizes_at p at (suc n) = le32 p at ∷ sizes_at p (at + 4) n

abbrev pub ending_of : Or (Unit {0}) → ℕ → ℕ → List ℕ
ending_of (Ok _) given events = given_line given events
ending_of (Err x) given events = refusal_line x

abbrev pub call_told : Call → ℕ → List ℕ
call_told c given = event_lines c.events ++ ending_of c.refusal given (length c.events)

-- the bytes x behind those that were taken, b: what a call left of them
abbrev pub left_by : Call → List ℕ → List ℕ → List ℕ
left_by c b x = drop (length c.taken - length b) x

unfoldable pub calls_text : ℕ → List ℕ → List ℕ → List ℕ → List ℕ
calls_text room b x [] = cond (eqb (length x) 0) [] (call_told (call_of b x room) (length x))
calls_text room b x (size ∷ sizes) =
    call_told (call_of b (take size x) room) (length (take size x))
    ++ calls_text room (call_of b (take size x) room).taken (left_by (call_of b (take size x) room) b x) sizes

abbrev pub sizes_end : List ℕ → ℕ
sizes_end p = 6 + 4 * le16 p 4

unfoldable pub portions_text : List ℕ → List ℕ
portions_text p = calls_text (list_room p 0) [] (drop (sizes_end p) p) (sizes_at p 6 (le16 p 4))

unfoldable pub portions_reply : List ℕ → Reply
portions_reply p = at_least 6 p (at_least (sizes_end p) p (told (portions_text p)))

-- 13: block (4), packet. The four lines of a summary; of the standard reading
abbrev pub summary_told : Or Summary → List ℕ
summary_told (Ok s) = summary_lines s
summary_told (Err x) = refusal_line x

unfoldable pub summary_text : List ℕ → List ℕ
summary_text p = summary_told (summary_asked Standard (drop 4 p) (le32 p 0))

unfoldable pub summary_reply : List ℕ → Reply
summary_reply p = at_least 4 p (told (summary_text p))

-- by the kind; any other is not served
unfoldable pub answer_to : ℕ → List ℕ → Reply
answer_to kind p =
    cond (eqb kind 1) (dump_reply p)
    (cond (eqb kind 2) (list_reply p)
    (cond (eqb kind 3) (shown_reply p)
    (cond (eqb kind 4) (stretch_reply p)
    (cond (eqb kind 5) (written_reply Plain p)
    (cond (eqb kind 6) (written_reply Careful p)
    (cond (eqb kind 7) (made_reply p)
    (cond (eqb kind 8) (parsed_reply p)
    (cond (eqb kind 9) (words_reply p)
    (cond (eqb kind 10) (marks_reply p)
    (cond (eqb kind 11) (view_reply p)
    (cond (eqb kind 12) (portions_reply p)
    (cond (eqb kind 13) (summary_reply p)
    (cond (eqb kind 14) (numbers_reply p) cut)))))))))))))
