-- `xr::walk` meets its contract: the walk to where the blocks end, noting where block k begins.
use Rattle.xr.proofs.WalkTurn.{walked, walked-cut}
use Rattle.xr.proofs.walk.Goals as goal

pub walk_on-requires : goal.walk_on-requires
walk_on-requires c = (c.requires.0, c.requires.1, c.reach-w.ensures.at c.in-Ok.n c.in-Ok.is)

pub returns-in-Ok : goal.returns-in-Ok
returns-in-Ok c = let a = c.args in
    walked a.s.now a.stop a.k c.reach-w.result.place c.in-Ok.n c.walk_on.result
    c.reach-w.result.count c.reach-w.ensures c.in-Ok.is c.walk_on.ensures

pub returns-in-Err : goal.returns-in-Err
returns-in-Err c = let a = c.args in
    walked-cut a.s.now a.stop a.k c.reach-w.result.place c.in-Err.x
    c.reach-w.result.count c.reach-w.ensures c.in-Err.is
