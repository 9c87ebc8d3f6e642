-- `probe::shown_asked` meets its contract: kind 3: a block's time or its fields, or `cut`.
use mathlib.Core.Path.{sym, ◌∙◌}
use Rattle.def_probe.specs.Requests.{told, shown_reply, shown_text}
use Rattle.probe.proofs.ReplyLaws.{replies, is-told, is_cut, begun, not-begun}
use Rattle.probe.proofs.shown_asked.Goals as goal

pub returns-then-begins : goal.returns-then-begins
unfolding shown_reply
returns-then-begins c = let p = c.args.p.now in
    replies (begun 6 p (told (shown_text p)) (sym c.begins.ensures ∙ c.if-begins.true))
    (is-told c.shown.ensures c.served.ensures)

pub returns : goal.returns
unfolding shown_reply
returns c = let p = c.args.p.now in
    replies (not-begun 6 p (told (shown_text p)) (sym c.begins.ensures ∙ c.if-begins.false))
    (is_cut c.cut.ensures)
