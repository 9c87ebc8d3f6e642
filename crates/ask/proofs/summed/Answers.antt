-- `ask::summed` meets its contract: a block's summary, or the refusal.
use mathlib.Core.Path.{sym, ap, ◌∙◌}
use Rattle.print.proofs.AddedLaws.{reads}
use Rattle.def_probe.specs.Requests.{summary_told}
use Rattle.ask.proofs.summed.Goals as goal

pub returns-in-Ok : goal.returns-in-Ok
returns-in-Ok c = reads (ap summary_told (sym c.in-Ok.is ∙ c.summary_in.ensures))
    c.summary_lines.ensures

pub returns-in-Err : goal.returns-in-Err
returns-in-Err c = reads (ap summary_told (sym c.in-Err.is ∙ c.summary_in.ensures))
    c.refusal_line.ensures
