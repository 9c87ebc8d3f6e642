-- `summary_lines::summary_parts` meets its contract: the four texts, with something between them.
use Rattle.print.proofs.AddedLaws.{and_then}
use Rattle.def_dump.specs.Summaries.{summary_parts}
use Rattle.summary_lines.proofs.summary_parts.Goals as goal

pub returns : goal.returns
unfolding summary_parts
returns c = and_then (and_then (and_then (and_then (and_then (and_then c.span-a.ensures c.text-b.ensures)
    c.counts-c.ensures) c.text-d.ensures) c.jitter-e.ensures) c.text-f.ensures) c.hops.ensures
