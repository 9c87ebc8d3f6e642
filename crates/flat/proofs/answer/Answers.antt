-- `flat::answer` meets its contract.
use Rattle.flat.specs.Flat.{flat_of}
use mathlib.Core.Path.{sym, ap, ◌∙◌}
use Rattle.flat.proofs.answer.Goals as goal

pub returns-in-Ok : goal.returns-in-Ok
unfolding flat_of
returns-in-Ok c = sym (ap flat_of c.in-Ok.is)

pub returns-in-Err : goal.returns-in-Err
unfolding flat_of
returns-in-Err c = c.refusal.ensures ∙ sym (ap flat_of c.in-Err.is)
