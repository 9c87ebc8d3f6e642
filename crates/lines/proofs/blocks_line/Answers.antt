-- `lines::blocks_line` meets its contract: `blocks N ssrc S`.
use Rattle.print.proofs.AddedLaws.{and_then}
use Rattle.def_dump.specs.Lines.{blocks_line}
use Rattle.lines.proofs.blocks_line.Goals as goal

pub returns : goal.returns
unfolding blocks_line
returns c = and_then (and_then c.labelled-n.ensures c.labelled-m.ensures) c.line_end.ensures
