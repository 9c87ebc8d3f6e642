-- `probe::word_asked` meets its contract: kind 7: a chunk word, or `cut`.
use Rattle.probe.proofs.ReplyLaws.{replies, is-told, is_cut}
use Rattle.probe.proofs.KindLaws.{word_made, word_over, word-long}
use Rattle.probe.proofs.word_asked.Goals as goal

pub returns-then-byte_at-le3 : goal.returns-then-byte_at-le3
returns-then-byte_at-le3 c = replies (word_made c.args.p.now _ c.if-p-eq9.true c.byte_at.ensures c.if-byte_at-le3.true)
    (is-told c.made.ensures c.served.ensures)

pub returns-then-p-eq9 : goal.returns-then-p-eq9
returns-then-p-eq9 c = replies (word_over c.args.p.now _ c.if-p-eq9.true c.byte_at.ensures c.if-byte_at-le3.false)
    (is_cut c.cut.ensures)

pub returns : goal.returns
returns c = replies (word-long c.args.p.now c.if-p-eq9.false) (is_cut c.cut-2.ensures)
