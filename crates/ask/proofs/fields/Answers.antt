-- `ask::fields` meets its contract: a block's fields, or the refusal.
use mathlib.Core.Path.{sym, ap, ◌∙◌}
use Rattle.print.proofs.AddedLaws.{reads}
use Rattle.def_probe.specs.Requests.{fields_told}
use Rattle.ask.proofs.fields.Goals as goal

pub returns-in-Ok : goal.returns-in-Ok
returns-in-Ok c = reads (ap fields_told (sym c.in-Ok.is ∙ c.fields.ensures))
    c.fields_line.ensures

pub returns-in-Err : goal.returns-in-Err
returns-in-Err c = reads (ap fields_told (sym c.in-Err.is ∙ c.fields.ensures))
    c.refusal_line.ensures
