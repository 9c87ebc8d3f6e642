-- The lines of events, each with its line end (RULES, "Packets in portions").
--     event_line      an event's line
--     event_lines     those of many, one after the other
--     given_line      the line behind a call's events
use Rattle.std.specs.Prelude.{ℕ, List, [], ◌∷◌, ◌++◌}
use Rattle.def_portions.specs.declared.Event.{Event}
use Rattle.def_portions.specs.declared.Event.TheVariants.{Header, Start, Ranged as RangedStart, Number, Pair}
use Rattle.def_portions.specs.declared.Event.TheVariants.{Entry, Time, Summed, End}
use Rattle.def_text.specs.Numerals.{ascii, spaced, labelled, line_end}
use Rattle.def_dump.specs.Lines.{fields_line, time_line}
use Rattle.def_dump.specs.Summaries.{summary_parts}

-- `header LENGTH SSRC`; `start TYPE L`, and for types 1 to 3 `ssrc S begin B end E thinning T` behind it; `number N`;
-- `pair N T`; `entry S L D`; `time N`; `summary ` and the dump's four lines of it, joined by `; `; `end`
unfoldable pub event_line : Event → List ℕ
event_line (Header l ssrc) = labelled (ascii "header") l ++ spaced ssrc ++ line_end
event_line (Start type l) = labelled (ascii "start") type ++ spaced l ++ line_end
event_line (RangedStart type l f) = labelled (ascii "start") type ++ spaced l ++ ascii " " ++ fields_line f
event_line (Number n) = labelled (ascii "number") n ++ line_end
event_line (Pair r) = labelled (ascii "pair") r.number ++ spaced r.time.0 ++ line_end
event_line (Entry e) = labelled (ascii "entry") e.ssrc ++ spaced e.last.0 ++ spaced e.delay.0 ++ line_end
event_line (Time t) = time_line t.0
event_line (Summed s) = ascii "summary " ++ summary_parts (ascii "; ") s ++ line_end
event_line End = ascii "end" ++ line_end

unfoldable pub event_lines : List Event → List ℕ
event_lines [] = []
event_lines (e ∷ es) = event_line e ++ event_lines es

-- `taken B events K`: what a call took and listed
unfoldable pub given_line : ℕ → ℕ → List ℕ
given_line given events = labelled (ascii "taken") given ++ labelled (ascii " events") events ++ line_end
