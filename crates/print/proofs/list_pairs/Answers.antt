-- `print::list_pairs` meets its contract: the first n of two lists side by side.
use Rattle.std.proofs.Common.{sym}
use Rattle.std.proofs.lemmas.Iterator.{YieldsList-from_slice, YieldsList-from_take, YieldsList-from_zip}
use Rattle.std.proofs.lemmas.Iterator.Consumers.{YieldsList-at}
use Rattle.print.proofs.AddedLaws.{start, next, done, reads}
use Rattle.print.proofs.ListLaws.{rest-next, rest-end, pairs-next, pairs-end, pairs-whole}
use Rattle.print.proofs.list_pairs.Goals as goal

pub loop-x-init : goal.loop-x-init
loop-x-init c = start

pub loop-x-preserved : goal.loop-x-preserved
loop-x-preserved c =
    let e = YieldsList-at c.into_iter-x-iterator.ensures.into_iter_gives
    (YieldsList-from_take c.args.n (YieldsList-from_zip (YieldsList-from_slice c.args.numbers.now cc) (YieldsList-from_slice c.args.times.now cc)) c.take-x-items.ensures.count) in
    next (pairs-next (rest-next e c.loop-x.yielded c.loop-x.x-iterator c.loop-x.yielded_by _ c.next.new.self _ c.in-Some.is c.next.ensures.steps))
    c.pair-to.ensures c.loop-x.invariant

pub returns : goal.returns
returns c =
    let e = YieldsList-at c.into_iter-x-iterator.ensures.into_iter_gives
    (YieldsList-from_take c.args.n (YieldsList-from_zip (YieldsList-from_slice c.args.numbers.now cc) (YieldsList-from_slice c.args.times.now cc)) c.take-x-items.ensures.count) in
    reads (sym (pairs-whole c.args.n c.args.numbers.now c.args.times.now))
    (done (pairs-end (rest-end e c.loop-x.yielded c.loop-x.x-iterator c.loop-x.yielded_by _ c.next.new.self c.in-None.is c.next.ensures.steps))
    c.loop-x.invariant)
