-- `probe::typed` meets its contract: numbers, pairs or entries by the asked type, or none.
use Rattle.probe.proofs.ReplyLaws.{replies, is-told, is_cut}
use Rattle.probe.proofs.KindLaws.{typed-1, typed-2, typed-3, typed-5, typed-other}
use Rattle.probe.proofs.typed.Goals as goal

pub returns-then-t-eq1 : goal.returns-then-t-eq1
returns-then-t-eq1 c = replies (typed-1 _ _ c.if-t-eq1.true) (is-told c.numbers.ensures c.served.ensures)

pub returns-then-t-eq2 : goal.returns-then-t-eq2
returns-then-t-eq2 c = replies (typed-2 _ _ c.if-t-eq2.true) (is-told c.numbers-then-t-eq2.ensures c.served-then-t-eq2.ensures)

pub returns-then-t-eq3 : goal.returns-then-t-eq3
returns-then-t-eq3 c = replies (typed-3 _ _ c.if-t-eq3.true) (is-told c.pairs.ensures c.served-then-t-eq3.ensures)

pub returns-then-t-eq5 : goal.returns-then-t-eq5
returns-then-t-eq5 c = replies (typed-5 _ _ c.if-t-eq5.true) (is-told c.entries.ensures c.served-then-t-eq5.ensures)

pub returns : goal.returns
returns c = replies (typed-other _ _ c.if-t-eq1.false c.if-t-eq2.false c.if-t-eq3.false c.if-t-eq5.false)
    (is_cut c.cut.ensures)
