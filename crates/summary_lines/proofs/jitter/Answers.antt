-- `summary_lines::jitter` meets its contract: `jitter MIN MAX MEAN DEVIATION`, or `jitter absent`.
use Rattle.print.proofs.AddedLaws.{and_then}
use Rattle.def_dump.specs.Summaries.{jitter_text}
use Rattle.summary_lines.proofs.jitter.Goals as goal

pub returns-in-Some : goal.returns-in-Some
unfolding jitter_text
returns-in-Some c = rw c.in-Some.is
    (and_then (and_then (and_then (and_then c.text-n.ensures c.number-a.ensures) c.number-b.ensures)
    c.number-c.ensures) c.number.ensures)

pub returns-in-None : goal.returns-in-None
unfolding jitter_text
returns-in-None c = rw c.in-None.is c.text.ensures
