-- `ask::word_of` meets its contract: the line of two bytes.
use Rattle.print.proofs.AddedLaws.{reads}
use Rattle.ask.proofs.AskLaws.{word-is}
use Rattle.ask.proofs.word_of.Goals as goal

pub returns : goal.returns
returns c = reads (word-is c.args.bytes.now _ _ c.byte_at.ensures c.byte_at-2.ensures)
    c.word_line.ensures
