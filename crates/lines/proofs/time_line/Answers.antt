-- `lines::time_line` meets its contract: `time N`.
use Rattle.print.proofs.AddedLaws.{and_then}
use Rattle.def_dump.specs.Lines.{time_line}
use Rattle.lines.proofs.time_line.Goals as goal

pub returns : goal.returns
unfolding time_line
returns c = and_then c.labelled-n.ensures c.line_end.ensures
