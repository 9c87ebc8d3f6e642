-- `lines::fields_line` meets its contract: `ssrc S begin B end E thinning T`.
use Rattle.print.proofs.AddedLaws.{and_then}
use Rattle.def_dump.specs.Lines.{fields_line}
use Rattle.lines.proofs.fields_line.Goals as goal

pub returns : goal.returns
unfolding fields_line
returns c = and_then (and_then (and_then (and_then c.labelled-n.ensures c.labelled-m.ensures) c.labelled-o.ensures)
    c.labelled-p.ensures) c.line_end.ensures
