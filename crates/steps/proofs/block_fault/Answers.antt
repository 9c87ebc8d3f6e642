-- `steps::block_fault` meets its contract: 6, then 7.
use mathlib.Core.Path.{sym, ◌∙◌}
use Rattle.laws.proofs.Passing.{handed-on}
use Rattle.def_portions.specs.Events.{block_fault}
use Rattle.steps.proofs.block_fault.Goals as goal

pub returns-in_err-too_long : goal.returns-in_err-too_long
unfolding block_fault
returns-in_err-too_long c = rw (
  handed-on _ _ c.from_residual.ensures,
  rw c.length_of-length.ensures.value at (sym c.too_long.ensures ∙ c.in_err-too_long.was),
)

pub returns : goal.returns
unfolding block_fault
returns c = rw (
  c.rule_of.ensures,
  c.first_byte.ensures,
  c.length_of-length.ensures.value,
  rw c.length_of-length.ensures.value at (sym c.too_long.ensures ∙ c.in_ok-too_long.was),
)
