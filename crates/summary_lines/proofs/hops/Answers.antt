-- `summary_lines::hops` meets its contract: by ToH.
use Rattle.print.proofs.AddedLaws.{and_then}
use Rattle.def_dump.specs.Summaries.{hops_text}
use Rattle.summary_lines.proofs.hops.Goals as goal

pub returns-in-NoHops : goal.returns-in-NoHops
unfolding hops_text
returns-in-NoHops c = rw c.in-NoHops.is c.text.ensures

pub returns-in-Ttl : goal.returns-in-Ttl
unfolding hops_text
returns-in-Ttl c = rw c.in-Ttl.is
    (and_then c.text-n.ensures c.four.ensures)

pub returns-in-HopLimit : goal.returns-in-HopLimit
unfolding hops_text
returns-in-HopLimit c = rw c.in-HopLimit.is
    (and_then c.text-n-in-HopLimit.ensures c.four-in-HopLimit.ensures)

pub returns-in-Unknown : goal.returns-in-Unknown
unfolding hops_text
returns-in-Unknown c = rw c.in-Unknown.is c.text-in-Unknown.ensures
