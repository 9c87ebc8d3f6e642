-- `swap::swap` meets its contract: eight bytes at a time, and those that are left one by one. Assumes nothing.
use Rattle.std.proofs.Common.{arith}
use Rattle.swap.proofs.Turn.{going-room, going_next}
use Rattle.swap.proofs.swap.Goals as goal

pub put_eight-requires : goal.put_eight-requires
put_eight-requires g c = going-room c.loop-k.invariant (g.met.W.Width.eights _) c.loop-k-test.true

pub loop-k-preserved : goal.loop-k-preserved
loop-k-preserved g c =
    going_next c.loop-k.invariant (g.met.W.Width.eights _) c.loop-k-test.true c.put_eight.ensures

pub put_one-requires : goal.put_one-requires
put_one-requires g c =
    going-room c.loop-k-2.invariant (g.met.W.Width.ones _) (omega (arith, c.SIZE.ensures, c.loop-k-2-test.true))

pub loop-k-2-preserved : goal.loop-k-2-preserved
loop-k-2-preserved g c =
    rw (c.SIZE-k.ensures, c.SIZE-n.ensures)
    (going_next c.loop-k-2.invariant (g.met.W.Width.ones _) (omega (arith, c.SIZE.ensures, c.loop-k-2-test.true))
    c.put_one.ensures)
