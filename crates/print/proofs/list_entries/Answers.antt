-- `print::list_entries` meets its contract: the first n of three lists side by side.
use Rattle.std.proofs.Common.{sym}
use Rattle.std.proofs.lemmas.Iterator.{YieldsList-from_slice, YieldsList-from_take, YieldsList-from_zip}
use Rattle.std.proofs.lemmas.Iterator.Consumers.{YieldsList-at}
use Rattle.print.proofs.AddedLaws.{start, next, done, reads}
use Rattle.print.proofs.ListLaws.{rest-next, rest-end, entries-next, entries-end, entries-whole}
use Rattle.print.proofs.list_entries.Goals as goal

pub loop-x-init : goal.loop-x-init
loop-x-init c = start

pub loop-x-preserved : goal.loop-x-preserved
loop-x-preserved c =
    let e = YieldsList-at c.into_iter-x-iterator.ensures.into_iter_gives
    (YieldsList-from_take c.args.n (YieldsList-from_zip (YieldsList-from_zip (YieldsList-from_slice c.args.a.now cc) (YieldsList-from_slice c.args.b.now cc)) (YieldsList-from_slice c.args.c.now cc)) c.take-x-items.ensures.count) in
    next (entries-next (rest-next e c.loop-x.yielded c.loop-x.x-iterator c.loop-x.yielded_by _ c.next.new.self _ c.in-Some.is c.next.ensures.steps))
    c.triple-to.ensures c.loop-x.invariant

pub returns : goal.returns
returns c =
    let e = YieldsList-at c.into_iter-x-iterator.ensures.into_iter_gives
    (YieldsList-from_take c.args.n (YieldsList-from_zip (YieldsList-from_zip (YieldsList-from_slice c.args.a.now cc) (YieldsList-from_slice c.args.b.now cc)) (YieldsList-from_slice c.args.c.now cc)) c.take-x-items.ensures.count) in
    reads (sym (entries-whole c.args.n c.args.a.now c.args.b.now c.args.c.now))
    (done (entries-end (rest-end e c.loop-x.yielded c.loop-x.x-iterator c.loop-x.yielded_by _ c.next.new.self c.in-None.is c.next.ensures.steps))
    c.loop-x.invariant)
