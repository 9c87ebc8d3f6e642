-- `misled::covered_in` meets its contract: low and high bytes are added apart. Assumes nothing.
use Rattle.misled.proofs.StretchTurn.{adding-none, adding-more}
use Rattle.misled.proofs.covered_in.Goals as goal

pub loop-k-init : goal.loop-k-init
loop-k-init c = let a = c.args in adding-none a.body.now a.from

pub loop-k-preserved : goal.loop-k-preserved
loop-k-preserved c = let a = c.args in
    adding-more a.body.now a.from c.loop-k.k c.covers-c.result
    (rw (← c.load16.ensures) c.covers-c.ensures) c.loop-k.invariant
