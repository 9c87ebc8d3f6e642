-- `ask::written_into` meets its contract: a packet into lent memory.
use Rattle.print.proofs.AddedLaws.{reads}
use Rattle.lent.specs.Pattern.{mark8}
use Rattle.def_dump.specs.Lines.{packet_line}
use Rattle.lent.proofs.TellLaws.{listed}
use Rattle.ask.proofs.written_into.Goals as goal

pub returns : goal.returns
returns c = reads (listed mark8 packet_line _ c.fill.ensures c.write_in-a.ensures)
    c.tell_packet.ensures
