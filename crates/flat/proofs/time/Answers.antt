-- `flat::time` meets its contract.
use Rattle.flat.specs.Flat.{flat_time}
use mathlib.Core.Path.{sym, ap, ◌∙◌}
use Rattle.flat.proofs.time.Goals as goal

pub returns-in-Ok : goal.returns-in-Ok
unfolding flat_time
returns-in-Ok c = sym (ap flat_time c.in-Ok.is)

pub returns-in-Err : goal.returns-in-Err
unfolding flat_time
returns-in-Err c = c.refusal.ensures ∙ sym (ap flat_time c.in-Err.is)
