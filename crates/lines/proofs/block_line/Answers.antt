-- `lines::block_line` meets its contract: `block K type T length L`.
use Rattle.print.proofs.AddedLaws.{and_then}
use Rattle.def_dump.specs.Lines.{block_line}
use Rattle.lines.proofs.block_line.Goals as goal

pub returns : goal.returns
unfolding block_line
returns c = and_then (and_then (and_then c.labelled-n.ensures c.labelled-m.ensures) c.labelled-o.ensures)
    c.line_end.ensures
