-- `jobs::next_at` meets its contract, also past the end.
use mathlib.Core.Path.{◌∙◌}
use Rattle.jobs.proofs.PlaceLaws.{next-cut}
use Rattle.jobs.proofs.next_at.Goals as goal

pub returns : goal.returns
returns c = let a = c.args in
    next-cut a.list.now a.at c.min-from.result c.min-from.ensures c.wide32-n.result c.min.result
    (c.wide32-n.ensures.0 ∙ c.u32_from_le_bytes.ensures) c.min.ensures
