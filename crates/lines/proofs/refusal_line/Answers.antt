-- `lines::refusal_line` meets its contract: `refused N A B`.
use Rattle.print.proofs.AddedLaws.{and_then}
use Rattle.def_dump.specs.Lines.{refusal_line}
use Rattle.lines.proofs.refusal_line.Goals as goal

pub returns : goal.returns
unfolding refusal_line
returns c = rw (← c.number-row.ensures)
    (and_then (and_then (and_then c.labelled-n.ensures c.number-m.ensures) c.number-o.ensures)
    c.line_end.ensures)
