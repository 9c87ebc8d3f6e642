-- `summary_lines::counts` meets its contract: `lost N duplicates N`.
use Rattle.print.proofs.AddedLaws.{and_then}
use Rattle.def_dump.specs.Summaries.{counts_text}
use Rattle.summary_lines.proofs.counts.Goals as goal

pub returns : goal.returns
unfolding counts_text
returns c = and_then (and_then (and_then c.text-n.ensures c.count-m.ensures) c.text-o.ensures) c.count.ensures
