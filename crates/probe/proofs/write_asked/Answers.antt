-- `probe::write_asked` meets its contract: kinds 5 and 6: a packet, or `cut`.
use native.Mathlib.Omega.{arith}
use Rattle.def_probe.specs.Requests.{told, written_reply, written_text}
use Rattle.probe.proofs.ReplyLaws.{replies, is-told, is_cut, long-enough, too_short}
use Rattle.probe.proofs.write_asked.Goals as goal

pub returns-then-p-ge4 : goal.returns-then-p-ge4
unfolding written_reply
returns-then-p-ge4 c = let p = c.args.p.now in
    replies (long-enough 4 p (told (written_text c.args.layout p)) (omega arith))
    (is-told c.written.ensures c.served.ensures)

pub returns : goal.returns
unfolding written_reply
returns c = let p = c.args.p.now in
    replies (too_short 4 p (told (written_text c.args.layout p)) (omega arith)) (is_cut c.cut.ensures)
