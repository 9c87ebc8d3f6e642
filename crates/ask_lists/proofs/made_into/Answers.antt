-- `ask_lists::made_into` meets its contract: words from marks into lent memory.
use Rattle.print.proofs.AddedLaws.{reads}
use Rattle.lent.specs.Pattern.{mark16}
use Rattle.def_dump.specs.Lines.{words_line}
use Rattle.lent.proofs.TellLaws.{listed}
use Rattle.ask_lists.proofs.made_into.Goals as goal

pub returns : goal.returns
returns c = reads (listed mark16 words_line _ c.fill.ensures c.words-a.ensures)
    c.tell_words.ensures
