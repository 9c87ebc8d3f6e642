-- `by_number::unserved` meets its contract: why a question that a view's type does not serve is refused.
use Rattle.xr.proofs.HeaderBytes.{type-taken}
use Rattle.def_refusals.specs.declared.Refusal.TheVariants.{OtherType}
use mathlib.Core.Path.{ap}
use Rattle.by_number.proofs.unserved.Goals as goal

pub returns : goal.returns
returns c = let a = c.args in
    ap OtherType (type-taken a.v.now _ c.header_data.ensures _ c.block_type-t.ensures)
