-- The state of a packet that comes in portions, byte by byte.
--     start            the state before the first byte
--     hold             one more byte of the item at hand
--     fault_of          the refusal that a complete item shows; it stays at hand then
--     passed           the state behind a complete item
--     shown_by          the events of a complete item, but for the packet's end: a word's, or lone_of, at most one
--     next, events_at   the state after a byte, and the byte's events
--     after, shows     the same of a list of bytes
use Rattle.std.specs.Prelude.{Option, Ok, Err, Some, None}
use Rattle.std.specs.Prelude.{ℕ, ◌+◌, ◌*◌, ◌-◌, ◌/◌, ◌%◌, cond, List, [], ◌∷◌, ◌++◌, map, length, take, eqb}
use Rattle.def_refusals.specs.Answers.{Or}
use Rattle.def_wire.specs.declared.Kind.{Kind}
use Rattle.def_wire.specs.declared.Kind.TheVariants.{Spans, Clock, Echoes, Statistics}
use Rattle.def_wire.specs.declared.Fields.{Fields}
use Rattle.def_wire.specs.declared.Sums.{Sums}
use Rattle.def_wire.specs.declared.Summary.{Summary}
use Rattle.def_wire.specs.Bytes.{four, eight}
use Rattle.def_wire.specs.Packet.{announced_of}
use Rattle.def_wire.specs.Block.{type_of, specific_of, block_length, fields_at, kind_of, receipt_type, clear_rule}
use Rattle.def_wire.specs.Summary.{spread, byte_spread, summary_from}
use Rattle.def_standard.specs.Chunks.{covers_of, values_in}
use Rattle.def_standard.specs.Range.{range_of, number_of}
use Rattle.def_standard.specs.Standard.{receipt}
use Rattle.def_crate.specs.Sequence.{moved_by}
use Rattle.def_portions.specs.declared.Event.{Event}
use Rattle.def_portions.specs.declared.Event.TheVariants.{Header, Start, Ranged as RangedStart, Number, Pair}
use Rattle.def_portions.specs.declared.Event.TheVariants.{Entry, Time, Summed, End}
use Rattle.def_portions.specs.Events.{head_fault, block_fault}
use Rattle.range.specs.Inside.{inside_count}
use Rattle.range.specs.Steps.{step_of}
use Rattle.ones.specs.Along.{along}
use Rattle.states.specs.declared.Kept.{Kept}
use Rattle.states.specs.declared.Known.{Known}
use Rattle.states.specs.declared.Portions.{Portions}
use Rattle.states.specs.declared.Settled.{Settled}

-- the items
abbrev pub head : ℕ
head = 0

abbrev pub sender : ℕ
sender = 1

abbrev pub block : ℕ
block = 2

abbrev pub fields : ℕ
fields = 3

abbrev pub word : ℕ
word = 4

abbrev pub time : ℕ
time = 5

abbrev pub whose : ℕ
whose = 6

abbrev pub echo : ℕ
echo = 7

abbrev pub clock : ℕ
clock = 8

abbrev pub skipped : ℕ
skipped = 9

abbrev pub over : ℕ
over = 10

abbrev pub sums : ℕ
sums = 11

abbrev pub hops : ℕ
hops = 12

abbrev pub kept : ℕ → ℕ → ℕ → ℕ → Kept
kept a b c d = record { first = a; second = b; third = c; fourth = d }

abbrev pub known_with : ℕ → ℕ → ℕ → ℕ → ℕ → Kept → Known
known_with announced b w next inside x =
    record { announced = announced; block = b; whose = w; next = next; inside = inside; kept = x }

-- outside a summary nothing is kept
abbrev pub known : ℕ → ℕ → ℕ → ℕ → ℕ → Known
known announced b w next inside = known_with announced b w next inside (kept 0 0 0 0)

-- an item of which so many bytes are missing
abbrev pub state : ℕ → ℕ → ℕ → ℕ → ℕ → Known → Portions
state item missing held rest behind k =
    record { held = held; missing = missing; rest = rest; behind = behind; known = k; item = item }

unfoldable pub start : Portions
start = state head 4 0 0 0 (known 0 0 0 0 0)

-- a byte more: of a part that is skipped nothing is held
abbrev pub held_with : ℕ → ℕ → ℕ → ℕ
held_with item h b = cond (eqb item skipped) h (h % 72057594037927936 * 256 + b)

unfoldable pub held_over : ℕ → ℕ → List ℕ → ℕ
held_over item h [] = h
held_over item h (b ∷ bs) = held_over item (held_with item h b) bs

abbrev pub hold : Portions → ℕ → Portions
hold st b = state st.item (st.missing - 1) (held_with st.item st.held b) st.rest st.behind st.known

-- so many bytes more
abbrev pub holds : Portions → List ℕ → Portions
holds st bs =
    state st.item (st.missing - length bs) (held_over st.item st.held bs) st.rest st.behind st.known

-- the bytes of an item of two, four and eight bytes
abbrev pub low16 : ℕ → ℕ
low16 h = h % 65536

abbrev pub low32 : ℕ → ℕ
low32 h = h % 4294967296

abbrev pub high32 : ℕ → ℕ
high32 h = h / 4294967296 % 4294967296

-- the length that four header bytes announce, where they are good; else 0
abbrev pub where_fine : Or (Unit {0}) → ℕ → ℕ
where_fine (Ok _) n = n
where_fine (Err x) n = 0

abbrev pub good_length : List ℕ → ℕ
good_length v = where_fine (head_fault v) (announced_of v)

-- of a complete item: the packet's first four bytes, a block's, or a word that is a run of no length
abbrev pub item_fault : Portions → Or (Unit {0})
item_fault st =
    cond (eqb st.item head) (head_fault (four (low32 st.held)))
    (cond (eqb st.item block) (block_fault (st.behind + 4) (four (low32 st.held)))
    (cond (eqb st.item word) (clear_rule (block_length (four st.known.block)) (low16 st.held ∷ [])) (Ok tt)))

unfoldable pub fault_of : Portions → Or (Unit {0})
fault_of st = cond (eqb st.missing 0) (item_fault st) (Ok tt)

-- behind a block: the next one's first four bytes, or the end; of a block nothing is kept behind it
unfoldable pub next_block : Known → ℕ → Portions
next_block k behind =
    cond (eqb behind 0) (state over 0 0 0 0 (known k.announced 0 0 0 0))
    (state block 4 0 0 (behind - 4) (known k.announced 0 0 0 0))

-- the next item of a block, of so many bytes; behind its last one, the next block
unfoldable pub opened : Known → ℕ → ℕ → ℕ → ℕ → Portions
opened k rest behind item size = cond (eqb rest 0) (next_block k behind) (state item size 0 (rest - size) behind k)

-- behind a block's first four bytes w: by its kind
abbrev pub opened_by : Option Kind → Known → ℕ → ℕ → Portions
opened_by (Some (Spans g)) k rest behind = opened k rest behind fields 8
opened_by (Some Clock) k rest behind = opened k rest behind clock 8
opened_by (Some Echoes) k rest behind = opened k rest behind whose 4
opened_by (Some Statistics) k rest behind = opened k rest behind sums 8
opened_by None k rest behind = opened k rest behind skipped rest

unfoldable pub in_block : ℕ → ℕ → ℕ → Portions
in_block announced behind w =
    opened_by (kind_of (type_of (four w))) (known announced w 0 0 0) (block_length (four w) - 4)
    (behind - (block_length (four w) - 4))

-- the fields of types 1 to 3, of the block's first four bytes and the next eight
abbrev pub fields_in : Known → ℕ → Fields
fields_in k h = fields_at (four k.block ++ eight h)

-- the first position's number, and how many are inside
unfoldable pub ranged : Known → ℕ → Known
ranged k h =
    known k.announced k.block 0 (number_of (range_of (fields_in k h)) 0) (inside_count (range_of (fields_in k h)))

abbrev pub type_in : Known → ℕ
type_in k = type_of (four k.block)

abbrev pub thinning_in : Known → ℕ
thinning_in k = specific_of (four k.block) % 16

-- so many positions on
abbrev pub moved : Known → ℕ → Known
moved k n = known k.announced k.block 0 (moved_by n (thinning_in k) k.next) (k.inside - n)

-- eight bytes of a summary more
abbrev pub summing : Known → ℕ → Known
summing k h =
    known_with k.announced k.block 0 0 0 (kept k.kept.second k.kept.third k.kept.fourth h)

-- a summary's numbers: those of four times eight bytes, and of the last four
abbrev pub sums_in : Kept → ℕ → Sums
sums_in x h = record {
  ssrc = high32 x.first;
  begin = low16 (x.first / 65536);
  end = low16 x.first;
  lost = high32 x.second;
  duplicates = low32 x.second;
  jitter = spread (high32 x.third) (low32 x.third) (high32 x.fourth) (low32 x.fourth);
  hops = byte_spread (h / 16777216 % 256) (h / 65536 % 256) (h / 256 % 256) (h % 256);
}

-- what is shown of them, by the block's first four bytes
abbrev pub summary_in : Known → ℕ → Summary
summary_in k h = summary_from (specific_of (four k.block)) (sums_in k.kept h)

-- behind the packet's first four bytes w
unfoldable pub in_packet : ℕ → Portions
in_packet w = state sender 4 0 0 (announced_of (four w) - 8) (known (announced_of (four w)) 0 0 0 0)

-- behind eight bytes of a summary: eight more, or the last four
unfoldable pub summed_on : Portions → Portions
summed_on st =
    cond (eqb st.rest 4) (opened (summing st.known st.held) st.rest st.behind hops 4)
    (opened (summing st.known st.held) st.rest st.behind sums 8)

-- the state behind a complete item
unfoldable pub passed : Portions → Portions
passed st =
    cond (eqb st.item head) (in_packet (low32 st.held))
    (cond (eqb st.item sender) (next_block st.known st.behind)
    (cond (eqb st.item block) (in_block st.known.announced st.behind (low32 st.held))
    (cond (eqb st.item fields)
    (cond (eqb (type_in st.known) receipt_type) (opened (ranged st.known st.held) st.rest st.behind time 4)
    (opened (ranged st.known st.held) st.rest st.behind word 2))
    (cond (eqb st.item word)
    (opened (moved st.known (covers_of (low16 st.held))) st.rest st.behind word 2)
    (cond (eqb st.item time) (opened (moved st.known 1) st.rest st.behind time 4)
    (cond (eqb st.item whose)
    (opened (known st.known.announced st.known.block (low32 st.held) 0 0) st.rest st.behind echo 8)
    (cond (eqb st.item echo)
    (opened (known st.known.announced st.known.block 0 0 0) st.rest st.behind whose 4)
    (cond (eqb st.item sums) (summed_on st)
    (opened st.known st.rest st.behind skipped st.rest)))))))))

-- the event of a complete item that has at most one: all but words
abbrev pub start_in : Option Kind → ℕ → Option Event
start_in (Some (Spans g)) w = None
start_in (Some Clock) w = Some (Start (type_of (four w)) (block_length (four w)))
start_in (Some Echoes) w = Some (Start (type_of (four w)) (block_length (four w)))
start_in (Some Statistics) w = Some (Start (type_of (four w)) (block_length (four w)))
start_in None w = Some (Start (type_of (four w)) (block_length (four w)))

abbrev pub ranged_in : Known → ℕ → Event
ranged_in k h = RangedStart (type_in k) (block_length (four k.block)) (fields_in k h)

abbrev pub entry_in : Known → ℕ → Event
entry_in k h = Entry (record { ssrc = k.whose; last = record { 0 = high32 h }; delay = record { 0 = low32 h } })

unfoldable pub lone_of : Portions → Option Event
lone_of st =
    cond (eqb st.item sender) (Some (Header st.known.announced (low32 st.held)))
    (cond (eqb st.item block) (start_in (kind_of (type_of (four (low32 st.held)))) (low32 st.held))
    (cond (eqb st.item fields) (Some (ranged_in st.known st.held))
    (cond (eqb st.item time)
    (cond (eqb st.known.inside 0) None (Some (Pair (receipt st.known.next (low32 st.held)))))
    (cond (eqb st.item echo) (Some (entry_in st.known st.held))
    (cond (eqb st.item clock) (Some (Time (record { 0 = st.held })))
    (cond (eqb st.item hops) (Some (Summed (summary_in st.known st.held))) None))))))

abbrev pub list_of : Option Event → List Event
list_of (Some e) = e ∷ []
list_of None = []

-- a word's numbers: of its ones, as far as they are inside
abbrev pub numbers_in : Known → ℕ → List ℕ
numbers_in k w = along (step_of (thinning_in k)) k.next (take k.inside (values_in w))

-- the events of a complete item
unfoldable pub shown_by : Portions → List Event
shown_by st =
    cond (eqb st.item word) (map Number (numbers_in st.known (low16 st.held))) (list_of (lone_of st))

abbrev pub end_in : Portions → List Event
end_in st = cond (eqb st.item over) (End ∷ []) []

-- a complete item that shows a refusal stays at hand; any other is passed
abbrev pub passed_on : Or (Unit {0}) → Portions → Portions
passed_on (Ok _) st = passed st
passed_on (Err x) st = st

abbrev pub shown_on : Or (Unit {0}) → Portions → List Event
shown_on (Ok _) st = shown_by st ++ end_in (passed st)
shown_on (Err x) st = []

-- an item, where it is complete
unfoldable pub settled : Portions → Portions
settled st = cond (eqb st.missing 0) (passed_on (item_fault st) st) st

unfoldable pub settled_events : Portions → List Event
settled_events st = cond (eqb st.missing 0) (shown_on (item_fault st) st) []

abbrev pub settled_of : Portions → Settled
settled_of st = record { state = settled st; events = length (settled_events st) }

-- one byte: where no byte is missing, none is taken
unfoldable pub next : Portions → ℕ → Portions
next st b = cond (eqb st.missing 0) st (settled (hold st b))

unfoldable pub events_at : Portions → ℕ → List Event
events_at st b = cond (eqb st.missing 0) [] (settled_events (hold st b))

unfoldable pub after : Portions → List ℕ → Portions
after st [] = st
after st (b ∷ bs) = after (next st b) bs

unfoldable pub shows : Portions → List ℕ → List Event
shows st [] = []
shows st (b ∷ bs) = events_at st b ++ shows (next st b) bs
