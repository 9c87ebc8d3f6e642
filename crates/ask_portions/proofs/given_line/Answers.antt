-- `ask_portions::given_line` meets its contract: `taken B events K`. Assumes nothing.
use Rattle.print.proofs.AddedLaws.{and_then}
use Rattle.def_dump.specs.EventLines.{given_line}
use Rattle.ask_portions.proofs.given_line.Goals as goal

pub returns : goal.returns
unfolding given_line
returns c = and_then (and_then c.labelled-n.ensures c.labelled-m.ensures) c.line_end.ensures
