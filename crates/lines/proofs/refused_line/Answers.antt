-- `lines::refused_line` meets its contract: `refused N`.
use Rattle.print.proofs.AddedLaws.{and_then}
use Rattle.def_dump.specs.Lines.{refused_line}
use Rattle.lines.proofs.refused_line.Goals as goal

pub returns : goal.returns
unfolding refused_line
returns c = rw (← c.number-row.ensures) (and_then c.labelled-n.ensures c.line_end.ensures)
