-- `ask::time` meets its contract: a block's time, or the refusal.
use mathlib.Core.Path.{sym, ap, ◌∙◌}
use Rattle.print.proofs.AddedLaws.{reads}
use Rattle.def_probe.specs.Requests.{time_told}
use Rattle.ask.proofs.time.Goals as goal

pub returns-in-Ok : goal.returns-in-Ok
returns-in-Ok c = reads (ap time_told (sym c.in-Ok.is ∙ c.time_in.ensures))
    c.time_line.ensures

pub returns-in-Err : goal.returns-in-Err
returns-in-Err c = reads (ap time_told (sym c.in-Err.is ∙ c.time_in.ensures))
    c.refusal_line.ensures
