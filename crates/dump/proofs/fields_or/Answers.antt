-- `dump::fields_or` meets its contract: a block's fields, or `refused 8`.
use mathlib.Core.Path.{sym, ap, ◌∙◌}
use Rattle.def_dump.specs.Dump.{fields_or}
use Rattle.print.proofs.AddedLaws.{reads}
use Rattle.dump.proofs.fields_or.Goals as goal

pub returns-in-Ok : goal.returns-in-Ok
returns-in-Ok c = reads (ap fields_or (sym c.in-Ok.is ∙ c.fields.ensures))
    c.fields_line.ensures

pub returns-in-Err : goal.returns-in-Err
returns-in-Err c = reads (ap fields_or (sym c.in-Err.is ∙ c.fields.ensures))
    c.refused_line.ensures
