-- `jobs::whole_kind` meets its contract.
use mathlib.Core.Path.{◌∙◌}
use native.Mathlib.Omega.{arith}
use Rattle.little_endian.proofs.LowLaws.{le16-cut}
use Rattle.jobs.proofs.PlaceLaws.{whole-within}
use Rattle.jobs.proofs.whole_kind.Goals as goal

pub overflow_add-at : goal.overflow_add-at
overflow_add-at c = omega (arith, whole-within c.args.list.now c.args.at c.requires)

pub load16-requires : goal.load16-requires
load16-requires c = omega (arith, whole-within c.args.list.now c.args.at c.requires)

pub returns : goal.returns
returns c = let a = c.args in
    c.load16.ensures
    ∙ le16-cut a.at a.list.now a.at 4 (omega (arith, whole-within a.list.now a.at c.requires))
