-- `probe::numbers_asked` meets its contract: kind 14: numbers, or `cut`.
use mathlib.Core.Path.{sym, ◌∙◌}
use Rattle.def_probe.specs.Requests.{told, numbers_reply, numbers_text}
use Rattle.probe.proofs.ReplyLaws.{replies, is-told, is_cut, begun, not-begun}
use Rattle.probe.proofs.numbers_asked.Goals as goal

pub returns-then-begins : goal.returns-then-begins
unfolding numbers_reply
returns-then-begins c = let p = c.args.p.now in
    replies (begun 10 p (told (numbers_text p)) (sym c.begins.ensures ∙ c.if-begins.true))
    (is-told c.numbers.ensures c.served.ensures)

pub returns : goal.returns
unfolding numbers_reply
returns c = let p = c.args.p.now in
    replies (not-begun 10 p (told (numbers_text p)) (sym c.begins.ensures ∙ c.if-begins.false))
    (is_cut c.cut.ensures)
