-- `probe::stretch_asked` meets its contract: kind 4: a stretch of the number cursor, or `cut`.
use native.Mathlib.Omega.{arith}
use Rattle.def_probe.specs.Requests.{told, stretch_reply, stretch_text}
use Rattle.probe.proofs.ReplyLaws.{replies, is-told, is_cut, long-enough, too_short}
use Rattle.probe.proofs.stretch_asked.Goals as goal

pub returns-then-p-ge25 : goal.returns-then-p-ge25
unfolding stretch_reply
returns-then-p-ge25 c = let p = c.args.p.now in
    replies (long-enough 25 p (told (stretch_text p)) (omega arith))
    (is-told c.stretch.ensures c.served.ensures)

pub returns : goal.returns
unfolding stretch_reply
returns c = let p = c.args.p.now in
    replies (too_short 25 p (told (stretch_text p)) (omega arith)) (is_cut c.cut.ensures)
