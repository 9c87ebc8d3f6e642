-- EventLines, by computation.
use mathlib.Core.Path.{refl}
use Rattle.def_text.specs.Numerals.{decimal_within}
use Rattle.def_dump.specs.Lines.{fields_line, time_line}
use Rattle.def_dump.specs.EventLines.{event_line, event_lines}
use Rattle.examples.specs.EventLines.{EventLines}

pub event-lines-hold : EventLines
unfolding decimal_within fields_line time_line event_line event_lines
event-lines-hold =
    record {
      header = refl;
      start = refl;
      ranged = refl;
      number = refl;
      of_pair = refl;
      entry = refl;
      time = refl;
      end = refl;
      many = (refl, refl);
    }
