-- `probe::portions_asked` meets its contract: kind 12: a packet in portions, or `cut`.
use Rattle.probe.proofs.ReplyLaws.{replies, is-told, is_cut}
use Rattle.probe.proofs.KindLaws.{portions-short, portions-cut, portions-told}
use Rattle.probe.proofs.portions_asked.Goals as goal

pub returns-then-p-lt6 : goal.returns-then-p-lt6
returns-then-p-lt6 c = replies (portions-short _ c.if-p-lt6.true) (is_cut c.cut.ensures)

pub returns-then-p-u16_from_le_bytes : goal.returns-then-p-u16_from_le_bytes
returns-then-p-u16_from_le_bytes c = replies (portions-cut _ _ c.if-p-lt6.false c.u16_from_le_bytes.ensures c.if-p-u16_from_le_bytes.true)
    (is_cut c.cut-then-p-u16_from_le_bytes.ensures)

pub returns : goal.returns
returns c = replies (portions-told _ _ c.if-p-lt6.false c.u16_from_le_bytes.ensures c.if-p-u16_from_le_bytes.false)
    (is-told c.calls.ensures c.served.ensures)
