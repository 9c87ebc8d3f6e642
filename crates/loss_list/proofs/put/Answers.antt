-- `loss_list::put` meets its contract: to copy into a part is to store.
use native.Mathlib.Omega.{arith}
use Rattle.loss_list.proofs.ListLaws.{part-stored}
use Rattle.loss_list.proofs.put.Goals as goal

pub returns : goal.returns
returns c = part-stored (omega arith) c.requires c.copy_from_slice.ensures.after
