-- `lines::words_line` meets its contract: `words ..`.
use Rattle.print.proofs.AddedLaws.{and_then}
use Rattle.def_dump.specs.Lines.{list_line}
use Rattle.lines.proofs.words_line.Goals as goal

pub returns : goal.returns
unfolding list_line
returns c = and_then (and_then c.text-n.ensures c.list16-m.ensures) c.line_end.ensures
