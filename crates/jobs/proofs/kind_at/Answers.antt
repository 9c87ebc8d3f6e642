-- `jobs::kind_at` meets its contract.
use mathlib.Core.Path.{◌∙◌}
use Rattle.little_endian.proofs.LowLaws.{le16-cut}
use Rattle.jobs.proofs.kind_at.Goals as goal

pub returns : goal.returns
returns c = let a = c.args in
    c.u16_from_le_bytes.ensures ∙ le16-cut a.at a.list.now c.min.result 4 c.min.ensures
