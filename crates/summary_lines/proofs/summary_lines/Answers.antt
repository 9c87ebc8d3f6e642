-- `summary_lines::summary_lines` meets its contract: four lines.
use Rattle.print.proofs.AddedLaws.{and_then}
use Rattle.summary_lines.proofs.summary_lines.Goals as goal

pub returns : goal.returns
returns c = and_then c.summary_parts-n.ensures c.line_end.ensures
