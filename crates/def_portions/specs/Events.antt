-- What the bytes of a packet that have come so far show, from all these bytes: no state (RULES, "Packets in
-- portions").
--     head_fault       what the packet's first four bytes show: 1, 2, 3, 18
--     block_fault      what a block's first four bytes show: 6, 7
--     block_events     the events of one block, of its bytes so far
--     block_then       one block and what comes behind it: it ends at a run of no length, 7
--     course_of        the events of all bytes so far, and the refusal that they end with
use Rattle.std.specs.Prelude.{Option, Ok, Err, Some, None}
use Rattle.std.specs.Prelude.{ℕ, zero, suc, ◌+◌, ◌*◌, ◌-◌, Bool, true, false, cond, not, List, [], ◌∷◌, ◌++◌, map, length, take, drop, ltb, leb, eqb}
use Rattle.def_wire.specs.declared.Kind.{Kind}
use Rattle.def_refusals.specs.declared.Refusal.{Refusal}
use Rattle.def_refusals.specs.declared.Refusal.TheVariants.{TooShort, WrongVersion, WrongPacketType, Padded}
use Rattle.def_refusals.specs.declared.Refusal.TheVariants.{BlockTooLong}
use Rattle.def_refusals.specs.Answers.{then_check, Or}
use Rattle.def_wire.specs.declared.Ranged.{Ranged}
use Rattle.def_wire.specs.declared.Ranged.TheVariants.{Chunks, Times}
use Rattle.def_wire.specs.declared.Kind.TheVariants.{Spans, Clock, Echoes, Statistics}
use Rattle.def_wire.specs.Bytes.{byte_at}
use Rattle.def_wire.specs.Packet.{version_of, is_padded, announced_of, ssrc_of, length_at, part}
use Rattle.def_wire.specs.Block.{type_of, block_length, fields_at, words_at, time_at, kind_of, standard_rule, lost_run}
use Rattle.def_wire.specs.Block.{word_rule}
use Rattle.def_wire.specs.Summary.{summary_at}
use Rattle.def_standard.specs.Standard.{standard_numbers, standard_pairs, entries_of}
use Rattle.def_portions.specs.declared.Event.{Event}
use Rattle.def_portions.specs.declared.Event.TheVariants.{Header, Start, Ranged as RangedStart, Number, Pair}
use Rattle.def_portions.specs.declared.Event.TheVariants.{Entry, Time, Summed, End}

-- the events of some bytes, and whether these bytes show a refusal, which ends them
pub record Course : Type 0 where
  pub events : List Event
  pub fault : Or (Unit {0})

abbrev pub course : List Event → Or (Unit {0}) → Course
course es x = record { events = es; fault = x }

-- nothing to show yet
abbrev pub quiet : Course
quiet = course [] (Ok tt)

-- some events, and then a course
abbrev pub then : List Event → Course → Course
then es c = course (es ++ c.events) c.fault

-- a course, where nothing refuses it
abbrev pub unless : Or (Unit {0}) → Course → Course
unless (Ok _) c = c
unless (Err x) c = course [] (Err x)

abbrev pub need : Bool → Refusal → Or (Unit {0})
need true x = Ok tt
need false x = Err x

-- the packet's first four bytes: 1, 2, 3, and in the place of 5, since padding is counted by the last byte, 18
unfoldable pub head_fault : List ℕ → Or (Unit {0})
head_fault s =
    then_check (need (leb 8 (announced_of s)) (TooShort 8 (announced_of s)))
    (then_check (need (eqb (version_of s) 2) WrongVersion)
    (then_check (need (eqb (byte_at s 1) 207) WrongPacketType) (need (not (is_padded s)) Padded)))

-- a type's length rule
abbrev pub rule_of : Option Kind → ℕ → Or (Unit {0})
rule_of (Some k) l = standard_rule k l
rule_of None l = Ok tt

-- a block's first four bytes, where so many bytes are left for blocks: 6, then 7
unfoldable pub block_fault : ℕ → List ℕ → Or (Unit {0})
block_fault left v =
    then_check (need (leb (block_length v) left) (BlockTooLong (block_length v) left))
    (rule_of (kind_of (type_of v)) (block_length v))

-- what a block's bytes so far list: numbers, or pairs
abbrev pub listed : Ranged → List ℕ → List Event
listed (Chunks a) v = map Number (standard_numbers v)
listed Times v = map Pair (standard_pairs v)

-- a block's start, known with its first four bytes
abbrev pub start_of : List ℕ → Event
start_of v = Start (type_of v) (block_length v)

-- or, for types 1 to 3, with its first twelve
abbrev pub ranged_of : List ℕ → Event
ranged_of v = RangedStart (type_of v) (block_length v) (fields_at v)

-- some events, known with so many bytes of a block
abbrev pub from : ℕ → List ℕ → List Event → List Event
from n v es = cond (leb n (length v)) es []

-- the events of a block whose bytes so far are v, at least four: by its kind
unfoldable pub kind_events : Option Kind → List ℕ → List Event
kind_events (Some (Spans g)) v = from 12 v (ranged_of v ∷ listed g v)
kind_events (Some Clock) v = start_of v ∷ from 12 v (Time (time_at v) ∷ [])
kind_events (Some Echoes) v = start_of v ∷ map Entry (entries_of v)
kind_events (Some Statistics) v = start_of v ∷ from 40 v (Summed (summary_at v) ∷ [])
kind_events None v = start_of v ∷ []

abbrev pub block_events : List ℕ → List Event
block_events v = kind_events (kind_of (type_of v)) v

-- how many words stand before the first run of no length; all of them, where there is none
unfoldable pub clear_words : List ℕ → ℕ
clear_words [] = 0
clear_words (w ∷ ws) = cond (eqb w lost_run) 0 (suc (clear_words ws))

-- a block's bytes before that word: of types 1 and 2
abbrev pub clear_part : Option Kind → List ℕ → List ℕ
clear_part (Some (Spans (Chunks a))) v = take (12 + 2 * clear_words (words_at v)) v
clear_part (Some (Spans Times)) v = v
clear_part (Some Clock) v = v
clear_part (Some Echoes) v = v
clear_part (Some Statistics) v = v
clear_part None v = v

-- 7, where that word has come
abbrev pub lost_fault : Option Kind → List ℕ → Or (Unit {0})
lost_fault (Some k) v = word_rule k (block_length v) v
lost_fault None v = Ok tt

-- a block, of its bytes so far, and then a course
unfoldable pub kind_then : Option Kind → List ℕ → Course → Course
kind_then kd v c = then (kind_events kd (clear_part kd v)) (unless (lost_fault kd v) c)

abbrev pub block_then : List ℕ → Course → Course
block_then v c = kind_then (kind_of (type_of v)) v c

-- the blocks of the bytes s from a place on, up to the announced length: nothing where the block before is not
-- complete; the end where the packet is; else the block there, of its bytes so far, and those behind it. Blocks are
-- not empty, so fuel of the length of s is enough
unfoldable pub blocks_from : List ℕ → ℕ → ℕ → ℕ → Course
blocks_from s stop zero at = quiet
blocks_from s stop (suc fuel) at =
    cond (ltb (length s) at) quiet
    (cond (leb stop at) (course (End ∷ []) (Ok tt))
    (cond (ltb (length s) (at + 4)) quiet
    (unless (block_fault (stop - at) (drop at s))
    (block_then (part s at (length_at s at)) (blocks_from s stop fuel (at + length_at s at))))))

-- the bytes s of a packet that have come so far
unfoldable pub course_of : List ℕ → Course
course_of s =
    cond (ltb (length s) 4) quiet
    (unless (head_fault s)
    (cond (ltb (length s) 8) quiet
    (then (Header (announced_of s) (ssrc_of s) ∷ []) (blocks_from s (announced_of s) (length s) 8))))
