-- `probe::summary_asked` meets its contract: kind 13: a summary, or `cut`.
use native.Mathlib.Omega.{arith}
use Rattle.def_probe.specs.Requests.{told, summary_reply, summary_text}
use Rattle.probe.proofs.ReplyLaws.{replies, is-told, is_cut, long-enough, too_short}
use Rattle.probe.proofs.summary_asked.Goals as goal

pub returns-then-p-ge4 : goal.returns-then-p-ge4
unfolding summary_reply
returns-then-p-ge4 c = let p = c.args.p.now in
    replies (long-enough 4 p (told (summary_text p)) (omega arith))
    (is-told c.summed.ensures c.served.ensures)

pub returns : goal.returns
unfolding summary_reply
returns c = let p = c.args.p.now in
    replies (too_short 4 p (told (summary_text p)) (omega arith)) (is_cut c.cut.ensures)
