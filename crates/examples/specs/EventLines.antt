-- Facts of def_dump: the line of each kind of event (RULES, "Packets in portions").
use Rattle.std.specs.Prelude.{◌≡◌, [], ◌∷◌}
use Rattle.def_portions.specs.declared.Event.TheVariants.{Header, Start, Ranged as RangedStart, Number, Pair}
use Rattle.def_portions.specs.declared.Event.TheVariants.{Entry, Time, End}
use Rattle.def_dump.specs.EventLines.{event_line, event_lines}
use Rattle.examples.specs.Rows.{fields}
use Rattle.examples.specs.Standard.{echo, pair}
use Rattle.examples.specs.Text.{text_of}

pub record EventLines : Type 0 where
  pub header : event_line (Header 8 7) ≡ text_of ("header 8 7" ∷ [])
  pub start : event_line (Start 5 16) ≡ text_of ("start 5 16" ∷ [])
  pub ranged :
      event_line (RangedStart 1 16 (fields 7 10 14 2)) ≡ text_of ("start 1 16 ssrc 7 begin 10 end 14 thinning 2" ∷ [])
  pub number : event_line (Number 65535) ≡ text_of ("number 65535" ∷ [])
  pub of_pair : event_line (Pair (pair 5 100)) ≡ text_of ("pair 5 100" ∷ [])
  pub entry : event_line (Entry (echo 10 11 12)) ≡ text_of ("entry 10 11 12" ∷ [])
  pub time : event_line (Time (record { 0 = 4294967298 })) ≡ text_of ("time 4294967298" ∷ [])
  pub end : event_line End ≡ text_of ("end" ∷ [])
  -- many, and none
  pub many :
      (event_lines (Number 10 ∷ Number 11 ∷ End ∷ []) ≡ text_of ("number 10" ∷ "number 11" ∷ "end" ∷ []))
      × (event_lines [] ≡ [])
