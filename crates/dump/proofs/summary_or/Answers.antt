-- `dump::summary_or` meets its contract: what a summary shows, or why it shows none.
use mathlib.Core.Path.{sym, ap, ◌∙◌}
use Rattle.def_dump.specs.Dump.{summary_or}
use Rattle.print.proofs.AddedLaws.{reads}
use Rattle.dump.proofs.summary_or.Goals as goal

pub returns-in-Ok : goal.returns-in-Ok
returns-in-Ok c = reads (ap summary_or (sym c.in-Ok.is ∙ c.summary.ensures))
    c.summary_lines.ensures

pub returns-in-Err : goal.returns-in-Err
returns-in-Err c = reads (ap summary_or (sym c.in-Err.is ∙ c.summary.ensures))
    c.refused_line.ensures
