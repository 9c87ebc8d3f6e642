-- `ask_lists::tell_numbers` meets its contract: the line of numbers, or the refusal's, and
-- `spoilt` unless the memory is whole.
use Rattle.print.proofs.AddedLaws.{and_then, reads}
use Rattle.lent.specs.Pattern.{mark16}
use Rattle.def_dump.specs.Lines.{numbers_line}
use Rattle.lent.proofs.TellLaws.{list_done, list-refused}
use Rattle.ask_lists.proofs.tell_numbers.Goals as goal

pub returns-in-Ok : goal.returns-in-Ok
returns-in-Ok c = reads (list_done mark16 numbers_line _ _ _ _ c.in-Ok.is c.stands.ensures)
    (and_then c.numbers_line-m.ensures c.said_whole.ensures)

pub returns-in-Err : goal.returns-in-Err
returns-in-Err c = reads (list-refused mark16 numbers_line _ _ _ _ c.in-Err.is c.stands-in-Err.ensures)
    (and_then c.refusal_line-m.ensures c.said_whole-in-Err.ensures)
