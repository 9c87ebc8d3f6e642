-- What the reading questions answer of a whole packet, as events: what a packet that comes in portions shows in all.
--     view_of       block k's view
--     fit_of        whether a block's view is fit to be read
--     part_of       the events of a block, from what the questions about its view answer
--     parts_from    those of so many blocks, from block k on
--     whole_of      those of a packet of n blocks
use Rattle.std.specs.Prelude.{ℕ, zero, suc, List, [], ◌∷◌, ◌++◌, map, Option, Ok, Err, Some, None}
use Rattle.def_wire.specs.declared.Summary.{Summary}
use Rattle.def_wire.specs.declared.LongTime.{LongTime}
use Rattle.def_wire.specs.declared.Kind.{Kind}
use Rattle.def_wire.specs.declared.Fields.{Fields}
use Rattle.def_refusals.specs.Answers.{Or}
use Rattle.def_wire.specs.declared.Reading.TheVariants.{Standard}
use Rattle.def_wire.specs.declared.Ranged.TheVariants.{Chunks, Times}
use Rattle.def_wire.specs.declared.Kind.TheVariants.{Spans, Clock, Echoes, Statistics}
use Rattle.def_wire.specs.Packet.{announced_of, ssrc_of, length_at, place_of, part}
use Rattle.def_wire.specs.Block.{type_of, block_length, kind_of, fitness, fields_of, time_of}
use Rattle.def_wire.specs.Summary.{summary_of}
use Rattle.def_questions.specs.Questions.{numbers_shown, pairs_shown, entries_shown}
use Rattle.def_portions.specs.declared.Event.{Event}
use Rattle.def_portions.specs.declared.Event.TheVariants.{Header, Ranged as RangedStart, Number, Pair, Entry, End}
use Rattle.def_portions.specs.declared.Event.TheVariants.{Time as TimeEvent, Summed}
use Rattle.def_portions.specs.Events.{start_of}

abbrev pub view_of : List ℕ → ℕ → List ℕ
view_of s k = part s (place_of s k) (length_at s (place_of s k))

-- a block of no kind is fit to be read: there is nothing to ask
abbrev pub fit_as : Option Kind → List ℕ → Or (Unit {0})
fit_as (Some k) v = fitness Standard k v
fit_as None v = Ok tt

abbrev pub fit_of : List ℕ → Or (Unit {0})
fit_of v = fit_as (kind_of (type_of v)) v

-- a list that was asked for; nothing where it is refused
abbrev pub list_of : {A : Type 0} → (A → Event) → Or (List A) → List Event
list_of e (Ok l) = map e l
list_of e (Err x) = []

-- the fields, and then a list
abbrev pub ranged_part : List ℕ → Or Fields → List Event → List Event
ranged_part v (Ok f) es = RangedStart (type_of v) (block_length v) f ∷ es
ranged_part v (Err x) es = []

abbrev pub time_part : Or LongTime → List Event
time_part (Ok t) = TimeEvent t ∷ []
time_part (Err x) = []

abbrev pub summary_part : Or Summary → List Event
summary_part (Ok s) = Summed s ∷ []
summary_part (Err x) = []

unfoldable pub kind_part : Option Kind → List ℕ → List Event
kind_part (Some (Spans (Chunks a))) v =
    ranged_part v (fields_of Standard (Chunks a) v) (list_of Number (numbers_shown Standard a v))
kind_part (Some (Spans Times)) v = ranged_part v (fields_of Standard Times v) (list_of Pair (pairs_shown Standard v))
kind_part (Some Clock) v = start_of v ∷ time_part (time_of Standard v)
kind_part (Some Echoes) v = start_of v ∷ list_of Entry (entries_shown Standard v)
kind_part (Some Statistics) v = start_of v ∷ summary_part (summary_of Standard v)
kind_part None v = start_of v ∷ []

abbrev pub part_of : List ℕ → List Event
part_of v = kind_part (kind_of (type_of v)) v

unfoldable pub parts_from : List ℕ → ℕ → ℕ → List Event
parts_from s k zero = []
parts_from s k (suc n) = part_of (view_of s k) ++ parts_from s (suc k) n

abbrev pub whole_of : List ℕ → ℕ → List Event
whole_of s n = Header (announced_of s) (ssrc_of s) ∷ (parts_from s 0 n ++ (End ∷ []))
