-- `jobs::kind_of` meets its contract: no kind is over 6.
use mathlib.Core.Path.{sym}
use native.Mathlib.Omega.{arith}
use Rattle.jobs.proofs.KindLaws.{kind_of-none}
use Rattle.jobs.proofs.kind_of.Goals as goal

pub returns-else-kind-lt256 : goal.returns-else-kind-lt256
returns-else-kind-lt256 c = sym (kind_of-none c.args.kind (omega arith))
