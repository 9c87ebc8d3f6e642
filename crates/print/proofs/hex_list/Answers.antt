-- `print::hex_list` meets its contract: the first n bytes of a list, in hexadecimal digits.
use Rattle.std.proofs.lemmas.Iterator.{YieldsList-from_slice, YieldsList-from_take}
use Rattle.std.proofs.lemmas.Iterator.Consumers.{YieldsList-at}
use Rattle.print.proofs.AddedLaws.{start, next, done}
use Rattle.print.proofs.ListLaws.{rest-next, rest-end, hex-next, hex-end}
use Rattle.print.proofs.hex_list.Goals as goal

pub loop-b-init : goal.loop-b-init
loop-b-init c = start

pub loop-b-preserved : goal.loop-b-preserved
loop-b-preserved c =
    let e = YieldsList-at c.into_iter-b-iterator.ensures.into_iter_gives (YieldsList-from_take c.args.n (YieldsList-from_slice c.args.list.now cc) c.take-b-items.ensures.count) in
    next (hex-next (rest-next e c.loop-b.yielded _ c.loop-b.yielded_by _ _ _ c.in-Some.is c.next.ensures.steps)) c.hex-to.ensures c.loop-b.invariant

pub returns : goal.returns
returns c =
    let e = YieldsList-at c.into_iter-b-iterator.ensures.into_iter_gives (YieldsList-from_take c.args.n (YieldsList-from_slice c.args.list.now cc) c.take-b-items.ensures.count) in
    done (hex-end (rest-end e c.loop-b.yielded _ c.loop-b.yielded_by _ _ c.in-None.is c.next.ensures.steps)) c.loop-b.invariant
