-- One block, as a function of its view v (RFC 3611, 3 and 4; RULES, "Packet and blocks" and refusals 10, 7 and
-- 8).
-- The standard's view has L bytes, so L is its length there; the crate's has everything left, and L comes from the
-- length field.
--     header_data    the four header bytes
--     fields_at      SSRC, begin, end, thinning of types 1 to 3
--     kind_of        the kind of a type number: types 1 to 6 have one
--     kind_in        the same of a reading: the crate knows types 1 to 5
--     words_at       the chunk words of types 1 and 2
--     fitness       whether a block of a kind is fit to be read: refusal 7
--     check_of       the block is of the asked kind (10) and fit to be read (7)
--     fields_of, time_of     the answers to the questions for fields and time
use Rattle.std.specs.Prelude.{Option, Ok, Err, Some, None}
use Rattle.std.specs.Prelude.{ℕ, ◌+◌, ◌-◌, ◌%◌, Bool, true, false, cond, not, ◌||◌, List, [], ◌∷◌, length, drop, ltb, leb, eqb}
use Rattle.def_refusals.specs.declared.Refusal.TheVariants.{OtherType, BadBlockLength, NoFields}
use Rattle.def_refusals.specs.Answers.{then_check, Or}
use Rattle.def_wire.specs.declared.Reading.{Reading}
use Rattle.def_wire.specs.declared.Reading.TheVariants.{Standard, Crate}
use Rattle.def_wire.specs.declared.Rle.{Rle}
use Rattle.def_wire.specs.declared.Rle.TheVariants.{Loss, Duplicate}
use Rattle.def_wire.specs.declared.Ranged.{Ranged}
use Rattle.def_wire.specs.declared.Ranged.TheVariants.{Chunks, Times}
use Rattle.def_wire.specs.declared.Kind.{Kind}
use Rattle.def_wire.specs.declared.Kind.TheVariants.{Spans, Clock, Echoes, Statistics}
use Rattle.def_wire.specs.declared.Fields.{Fields}
use Rattle.def_wire.specs.declared.LongTime.{LongTime}
use Rattle.def_wire.specs.Bytes.{byte_at, be16, be32, be64, words16}
use Rattle.def_wire.specs.Packet.{length_at}

-- type, specific byte, and the length field's two bytes
abbrev pub header_data : List ℕ → List ℕ
header_data v = byte_at v 0 ∷ byte_at v 1 ∷ byte_at v 2 ∷ byte_at v 3 ∷ []

abbrev pub type_of : List ℕ → ℕ
type_of v = byte_at v 0

abbrev pub specific_of : List ℕ → ℕ
specific_of v = byte_at v 1

-- L, from the length field
abbrev pub block_length : List ℕ → ℕ
block_length v = length_at v 0

-- types 1 to 3: the low four bits of the specific byte are the thinning (RFC 3611, 4.1)
abbrev pub fields_at : List ℕ → Fields
fields_at v = record { ssrc = be32 v 4; begin = be16 v 8; end = be16 v 10; thinning = specific_of v % 16 }

-- types 1 and 2: 16-bit words from byte 12 on (RFC 3611, 4.1)
abbrev pub words_at : List ℕ → List ℕ
words_at v = words16 (drop 12 v)

-- type 4: a 64-bit time at 4 (RFC 3611, 4.4)
abbrev pub time_at : List ℕ → LongTime
time_at v = record { 0 = be64 v 4 }

-- the block types (RFC 3611, 4.1 to 4.6)
abbrev pub loss_type : ℕ
loss_type = 1

abbrev pub duplicate_type : ℕ
duplicate_type = 2

abbrev pub receipt_type : ℕ
receipt_type = 3

abbrev pub clock_type : ℕ
clock_type = 4

abbrev pub echo_type : ℕ
echo_type = 5

abbrev pub summary_type : ℕ
summary_type = 6

-- each kind's type number
abbrev pub rle_type : Rle → ℕ
rle_type Loss = loss_type
rle_type Duplicate = duplicate_type

abbrev pub ranged_type : Ranged → ℕ
ranged_type (Chunks a) = rle_type a
ranged_type Times = receipt_type

abbrev pub kind_type : Kind → ℕ
kind_type (Spans g) = ranged_type g
kind_type Clock = clock_type
kind_type Echoes = echo_type
kind_type Statistics = summary_type

-- the kind of a type number, where it has one
unfoldable pub rle_of : ℕ → Option Rle
rle_of t = cond (eqb t loss_type) (Some Loss) (cond (eqb t duplicate_type) (Some Duplicate) None)

abbrev pub or_times : ℕ → Option Rle → Option Ranged
or_times t (Some a) = Some (Chunks a)
or_times t None = cond (eqb t receipt_type) (Some Times) None

unfoldable pub ranged_of : ℕ → Option Ranged
ranged_of t = or_times t (rle_of t)

abbrev pub or_more : ℕ → Option Ranged → Option Kind
or_more t (Some g) = Some (Spans g)
or_more t None =
    cond (eqb t clock_type) (Some Clock)
    (cond (eqb t echo_type) (Some Echoes)
    (cond (eqb t summary_type) (Some Statistics) None))

unfoldable pub kind_of : ℕ → Option Kind
kind_of t = or_more t (ranged_of t)

-- the kinds of which a reading shows more than type and length: the crate has no type 6
abbrev pub known_to : Reading → Option Kind → Option Kind
known_to Standard kd = kd
known_to Crate (Some (Spans g)) = Some (Spans g)
known_to Crate (Some Clock) = Some Clock
known_to Crate (Some Echoes) = Some Echoes
known_to Crate (Some Statistics) = None
known_to Crate None = None

abbrev pub kind_in : Reading → ℕ → Option Kind
kind_in r t = known_to r (kind_of t)

-- a length rule: it holds, or refusal 7 with the expected and the actual length
abbrev pub rule : Bool → ℕ → ℕ → Or (Unit {0})
rule true expected actual = Ok tt
rule false expected actual = Err (BadBlockLength expected actual)

-- the least length from l on whose part behind the four header bytes is divisible by 12
abbrev pub next_fit : ℕ → ℕ
next_fit l = l + (12 - (l - 4) % 12) % 12

-- standard: types 1 to 3 need L ≥ 12, type 4 needs L = 12, type 5 needs L − 4 divisible by 12, type 6 needs L = 40
-- (RULES, "Standard reading")
unfoldable pub standard_rule : Kind → ℕ → Or (Unit {0})
standard_rule (Spans g) l = rule (leb 12 l) 12 l
standard_rule Clock l = rule (eqb l 12) 12 l
standard_rule Echoes l = rule (eqb ((l - 4) % 12) 0) (next_fit l) l
standard_rule Statistics l = rule (eqb l 40) 40 l

-- the word of a run of ones of no length (RFC 3611, 4.1.1): one that its sender's encoder wrote when it had lost its
-- place
abbrev pub lost_run : ℕ
lost_run = 16384

-- whether a word is among some words
unfoldable pub has : ℕ → List ℕ → Bool
has w [] = false
has w (x ∷ xs) = eqb x w || has w xs

-- the words of a block of L bytes hold no such run, wherever they stand; else 7
unfoldable pub clear_rule : ℕ → List ℕ → Or (Unit {0})
clear_rule l ws = rule (not (has lost_run ws)) 12 l

-- standard, then: of types 1 and 2, the words
abbrev pub word_rule : Kind → ℕ → List ℕ → Or (Unit {0})
word_rule (Spans (Chunks a)) l v = clear_rule l (words_at v)
word_rule (Spans Times) l v = Ok tt
word_rule Clock l v = Ok tt
word_rule Echoes l v = Ok tt
word_rule Statistics l v = Ok tt

-- crate: types 1 and 2 need L ≥ 12, type 3 needs nothing, type 4 needs left ≥ 12, type 5 needs left ≥ 16 and then L
-- divisible
-- by 16; it has no question for type 6, so that is 10 with 6 (RULES, "Crate reading")
unfoldable pub crate_rule : Kind → ℕ → ℕ → Or (Unit {0})
crate_rule (Spans (Chunks a)) l left = rule (leb 12 l) 12 l
crate_rule (Spans Times) l left = Ok tt
crate_rule Clock l left = rule (leb 12 left) 12 left
crate_rule Echoes l left = cond (leb 16 left) (rule (eqb (l % 16) 0) (l + l % 16) left) (rule false 16 left)
crate_rule Statistics l left = Err (OtherType summary_type)

-- whether the block v, asked as a kind, is fit to be read
unfoldable pub fitness : Reading → Kind → List ℕ → Or (Unit {0})
fitness Standard k v = then_check (standard_rule k (length v)) (word_rule k (length v) v)
fitness Crate k v = crate_rule k (block_length v) (length v)

-- 10, then 7
unfoldable pub check_of : Reading → Kind → List ℕ → Or (Unit {0})
check_of r k v = cond (eqb (type_of v) (kind_type k)) (fitness r k v) (Err (OtherType (type_of v)))

-- the crate's fields of a type 3 block reach past the packet's end where less than 12 bytes are left: refusal 8
abbrev pub is_cut : Reading → Ranged → ℕ → Bool
is_cut Standard g left = false
is_cut Crate (Chunks a) left = false
is_cut Crate Times left = ltb left 12

abbrev pub on_checked_fields : Or (Unit {0}) → Or Fields → Or Fields
on_checked_fields (Ok _) f = f
on_checked_fields (Err x) f = Err x

abbrev pub on_checked_time : Or (Unit {0}) → LongTime → Or LongTime
on_checked_time (Ok _) t = Ok t
on_checked_time (Err x) t = Err x

-- the fields of a block asked as one with a range: 10, 7, then 8
unfoldable pub fields_of : Reading → Ranged → List ℕ → Or Fields
fields_of r g v =
    on_checked_fields (check_of r (Spans g) v) (cond (is_cut r g (length v)) (Err (NoFields (length v)))
    (Ok (fields_at v)))

-- the time of a block asked as type 4: 10, then 7
unfoldable pub time_of : Reading → List ℕ → Or LongTime
time_of r v = on_checked_time (check_of r Clock v) (time_at v)
