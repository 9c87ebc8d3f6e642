-- `print::list16` meets its contract: the first n of a list of 16-bit numbers, a space before each.
use Rattle.std.proofs.lemmas.Iterator.{YieldsList-from_slice, YieldsList-from_take}
use Rattle.std.proofs.lemmas.Iterator.Consumers.{YieldsList-at}
use Rattle.print.proofs.AddedLaws.{start, next, done}
use Rattle.print.proofs.ListLaws.{rest-next, rest-end, list-next, list-end}
use Rattle.print.proofs.list16.Goals as goal

pub loop-x-init : goal.loop-x-init
loop-x-init c = start

pub loop-x-preserved : goal.loop-x-preserved
loop-x-preserved c =
    let e = YieldsList-at c.into_iter-x-iterator.ensures.into_iter_gives (YieldsList-from_take c.args.n (YieldsList-from_slice c.args.list.now cc) c.take-x-items.ensures.count) in
    next (list-next c.from.ensures (rest-next e c.loop-x.yielded _ c.loop-x.yielded_by _ _ _ c.in-Some.is c.next.ensures.steps)) c.number-to.ensures c.loop-x.invariant

pub returns : goal.returns
returns c =
    let e = YieldsList-at c.into_iter-x-iterator.ensures.into_iter_gives (YieldsList-from_take c.args.n (YieldsList-from_slice c.args.list.now cc) c.take-x-items.ensures.count) in
    done (list-end (rest-end e c.loop-x.yielded _ c.loop-x.yielded_by _ _ c.in-None.is c.next.ensures.steps)) c.loop-x.invariant
