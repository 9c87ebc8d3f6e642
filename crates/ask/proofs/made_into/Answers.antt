-- `ask::made_into` meets its contract: a chunk word into lent memory.
use Rattle.print.proofs.AddedLaws.{reads}
use Rattle.lent.specs.Pattern.{mark8}
use Rattle.def_probe.specs.Requests.{word_told}
use Rattle.lent.proofs.TellLaws.{listed}
use Rattle.ask.proofs.made_into.Goals as goal

pub returns : goal.returns
returns c = reads (listed mark8 word_told _ c.fill.ensures c.write_chunk-a.ensures)
    c.tell_word.ensures
