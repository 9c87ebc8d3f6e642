-- `ask_lists::numbers_into` meets its contract: numbers into lent memory.
use Rattle.print.proofs.AddedLaws.{reads}
use Rattle.lent.specs.Pattern.{mark16}
use Rattle.def_dump.specs.Lines.{numbers_line}
use Rattle.lent.proofs.TellLaws.{listed}
use Rattle.ask_lists.proofs.numbers_into.Goals as goal

pub returns : goal.returns
returns c = reads (listed mark16 numbers_line _ c.fill.ensures c.numbers-a.ensures)
    c.tell_numbers.ensures
