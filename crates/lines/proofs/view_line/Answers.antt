-- `lines::view_line` meets its contract: `view OFFSET LENGTH header hhhhhhhh`.
use mathlib.Core.Path.{ap}
use lib.Seq.{take-length}
use Rattle.print.proofs.AddedLaws.{and_then, reads}
use Rattle.def_dump.specs.Lines.{view_line}
use Rattle.def_text.specs.Numerals.{hexes_of}
use Rattle.lines.proofs.view_line.Goals as goal

pub returns : goal.returns
unfolding view_line
returns c = and_then (and_then (and_then (and_then c.labelled-n.ensures c.number-m.ensures) c.text-o.ensures)
    (reads (ap hexes_of (take-length _)) c.hex_list-p.ensures)) c.line_end.ensures
