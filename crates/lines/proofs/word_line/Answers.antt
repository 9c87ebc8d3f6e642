-- `lines::word_line` meets its contract: `word hhhh`.
use Rattle.print.proofs.AddedLaws.{and_then}
use Rattle.def_dump.specs.Lines.{word_line}
use Rattle.lines.proofs.word_line.Goals as goal

pub returns : goal.returns
unfolding word_line
returns c = and_then (and_then (and_then c.text-n.ensures c.hex-m.ensures) c.hex-o.ensures) c.line_end.ensures
