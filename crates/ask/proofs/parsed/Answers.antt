-- `ask::parsed` meets its contract: a packet's count of blocks and its sender, or the refusal.
use Rattle.print.proofs.AddedLaws.{reads}
use Rattle.ask.proofs.AskLaws.{parsed-packet, parsed-unread}
use Rattle.ask.proofs.parsed.Goals as goal

pub returns-in-Ok : goal.returns-in-Ok
returns-in-Ok c = reads (parsed-packet _ _ _ c.parse.ensures _ c.in-Ok.is)
    c.blocks_line.ensures

pub returns-in-Err : goal.returns-in-Err
returns-in-Err c = reads (parsed-unread _ _ _ c.parse.ensures _ c.in-Err.is)
    c.refusal_line.ensures
