-- `probe::marks_asked` meets its contract: kind 10: words from marks, or `cut`.
use native.Mathlib.Omega.{arith}
use Rattle.def_probe.specs.Requests.{told, marks_reply, marks_text}
use Rattle.probe.proofs.ReplyLaws.{replies, is-told, is_cut, long-enough, too_short}
use Rattle.probe.proofs.marks_asked.Goals as goal

pub returns-then-p-ge4 : goal.returns-then-p-ge4
unfolding marks_reply
returns-then-p-ge4 c = let p = c.args.p.now in
    replies (long-enough 4 p (told (marks_text p)) (omega arith))
    (is-told c.from_marks.ensures c.served.ensures)

pub returns : goal.returns
unfolding marks_reply
returns c = let p = c.args.p.now in
    replies (too_short 4 p (told (marks_text p)) (omega arith)) (is_cut c.cut.ensures)
