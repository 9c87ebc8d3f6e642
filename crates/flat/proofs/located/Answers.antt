-- `flat::located` meets its contract.
use Rattle.flat.specs.Flat.{flat_located}
use mathlib.Core.Path.{sym, ap, ◌∙◌}
use Rattle.flat.proofs.located.Goals as goal

pub returns-in-Ok : goal.returns-in-Ok
unfolding flat_located
returns-in-Ok c = sym (ap flat_located c.in-Ok.is)

pub returns-in-Err : goal.returns-in-Err
unfolding flat_located
returns-in-Err c = c.refusal.ensures ∙ sym (ap flat_located c.in-Err.is)
