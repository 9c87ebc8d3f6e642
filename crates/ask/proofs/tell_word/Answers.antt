-- `ask::tell_word` meets its contract: a chunk word's line, or the refusal's, and `spoilt` unless the memory is whole.
use mathlib.Core.Path.{ap}
use Rattle.print.proofs.AddedLaws.{and_then, reads}
use Rattle.lent.specs.Pattern.{mark8}
use Rattle.def_probe.specs.Requests.{word_told}
use Rattle.lent.proofs.TellLaws.{list_done, list-refused}
use Rattle.ask.proofs.tell_word.Goals as goal

pub returns-in-Ok : goal.returns-in-Ok
returns-in-Ok c = reads (list_done mark8 word_told _ _ _ _ c.in-Ok.is c.stands.ensures)
    (and_then (reads (ap word_told c.part.ensures.result_value) c.word_of-m.ensures)
    c.said_whole.ensures)

pub returns-in-Err : goal.returns-in-Err
returns-in-Err c = reads (list-refused mark8 word_told _ _ _ _ c.in-Err.is c.stands-in-Err.ensures)
    (and_then c.refusal_line-m.ensures c.said_whole-in-Err.ensures)
