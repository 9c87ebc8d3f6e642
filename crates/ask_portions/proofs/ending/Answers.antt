-- `ask_portions::ending` meets its contract: by the refusal. Assumes nothing.
use mathlib.Core.Path.{sym, ap}
use Rattle.def_refusals.specs.Answers.{Or}
use Rattle.def_probe.specs.Requests.{ending_of}
use Rattle.print.proofs.AddedLaws.{reads}
use Rattle.ask_portions.proofs.ending.Goals as goal

pub returns-in-Ok : goal.returns-in-Ok
returns-in-Ok c = let a = c.args in
    reads (ap (λ (x : Or (Unit {0})). ending_of x a.given a.events) (sym c.in-Ok.is))
    c.given_line.ensures

pub returns-in-Err : goal.returns-in-Err
returns-in-Err c = let a = c.args in
    reads (ap (λ (x : Or (Unit {0})). ending_of x a.given a.events) (sym c.in-Err.is)) c.refusal_line.ensures
