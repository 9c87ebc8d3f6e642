-- `lines::taken_line` meets its contract: `taken K word W place P position Q`.
use Rattle.print.proofs.AddedLaws.{and_then}
use Rattle.def_dump.specs.Lines.{taken_line}
use Rattle.lines.proofs.taken_line.Goals as goal

pub returns : goal.returns
unfolding taken_line
returns c = and_then (and_then (and_then (and_then c.labelled-n.ensures c.labelled-m.ensures) c.labelled-o.ensures)
    c.labelled-p.ensures) c.line_end.ensures
