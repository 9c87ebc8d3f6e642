-- `summary_lines::span` meets its contract: `ssrc S begin B end E`.
use Rattle.print.proofs.AddedLaws.{and_then}
use Rattle.def_dump.specs.Summaries.{span_text}
use Rattle.summary_lines.proofs.span.Goals as goal

pub returns : goal.returns
unfolding span_text
returns c = and_then (and_then c.labelled-n.ensures c.labelled-m.ensures) c.labelled.ensures
