-- `flat::checked` meets its contract.
use Rattle.flat.specs.Flat.{flat_checked}
use mathlib.Core.Path.{sym, ap, ◌∙◌}
use Rattle.flat.proofs.checked.Goals as goal

pub returns-in-Ok : goal.returns-in-Ok
unfolding flat_checked
returns-in-Ok c = sym (ap flat_checked c.in-Ok.is)

pub returns-in-Err : goal.returns-in-Err
unfolding flat_checked
returns-in-Err c = c.refusal.ensures ∙ sym (ap flat_checked c.in-Err.is)
