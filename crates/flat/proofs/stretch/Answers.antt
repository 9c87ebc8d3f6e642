-- `flat::stretch` meets its contract.
use Rattle.flat.specs.Flat.{flat_stretch, stretch_row, no_stretch}
use mathlib.Core.Path.{sym, ap, ◌∙◌}
use Rattle.flat.proofs.stretch.Goals as goal

pub returns-in-Ok : goal.returns-in-Ok
unfolding flat_stretch
returns-in-Ok c = sym (ap flat_stretch c.in-Ok.is)

pub returns-in-Err : goal.returns-in-Err
unfolding flat_stretch
returns-in-Err c = ap (λ f. stretch_row f no_stretch) c.refusal-f.ensures
    ∙ sym (ap flat_stretch c.in-Err.is)
