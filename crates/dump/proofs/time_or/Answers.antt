-- `dump::time_or` meets its contract: a block's time, or why it has none.
use mathlib.Core.Path.{sym, ap, ◌∙◌}
use Rattle.def_dump.specs.Dump.{time_or}
use Rattle.print.proofs.AddedLaws.{reads}
use Rattle.dump.proofs.time_or.Goals as goal

pub returns-in-Ok : goal.returns-in-Ok
returns-in-Ok c = reads (ap time_or (sym c.in-Ok.is ∙ c.time.ensures)) c.time_line.ensures

pub returns-in-Err : goal.returns-in-Err
returns-in-Err c = reads (ap time_or (sym c.in-Err.is ∙ c.time.ensures))
    c.refused_line.ensures
