-- `lines::packet_line` meets its contract: `packet hh..`.
use Rattle.print.proofs.AddedLaws.{and_then}
use Rattle.def_dump.specs.Lines.{packet_line}
use Rattle.lines.proofs.packet_line.Goals as goal

pub returns : goal.returns
unfolding packet_line
returns c = and_then (and_then c.text-n.ensures c.hex_list-m.ensures) c.line_end.ensures
