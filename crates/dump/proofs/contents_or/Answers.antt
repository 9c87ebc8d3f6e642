-- `dump::contents_or` meets its contract: the same, or one `refused 7`.
use mathlib.Core.Path.{sym, ap, ◌∙◌}
use Rattle.def_refusals.specs.Answers.{Or}
use Rattle.print.proofs.AddedLaws.{reads}
use Rattle.def_dump.specs.Dump.{contents_of, unless_unfit}
use Rattle.dump.proofs.contents_or.Goals as goal

pub returns-in-Ok : goal.returns-in-Ok
returns-in-Ok c = let b = c.args in
    reads (ap (λ (a : Or (Unit {0})). unless_unfit a (contents_of b.r b.k b.v.now))
    (sym c.in-Ok.is ∙ c.check.ensures)) c.contents.ensures

pub returns-in-Err : goal.returns-in-Err
returns-in-Err c = let b = c.args in
    reads (ap (λ (a : Or (Unit {0})). unless_unfit a (contents_of b.r b.k b.v.now))
    (sym c.in-Err.is ∙ c.check.ensures)) c.refused_line.ensures
