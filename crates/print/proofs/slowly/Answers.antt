-- `print::slowly` meets its contract: a text byte by byte.
use Rattle.print.proofs.AddedLaws.{start, next, done}
use Rattle.print.proofs.ListLaws.{drop_all, drop-next}
use Rattle.print.proofs.slowly.Goals as goal

pub loop-b-init : goal.loop-b-init
loop-b-init c = start

pub loop-b-preserved : goal.loop-b-preserved
loop-b-preserved c = next (drop-next _ _ c.loop-b-test.true) c.byte-n.ensures c.loop-b.invariant

pub returns : goal.returns
returns c = done (drop_all _ _ c.loop-b-test.false) c.loop-b.invariant
