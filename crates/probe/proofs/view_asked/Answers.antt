-- `probe::view_asked` meets its contract: kind 11: a block's view, or `cut`.
use mathlib.Core.Path.{sym, ◌∙◌}
use Rattle.def_probe.specs.Requests.{told, view_reply, view_text}
use Rattle.probe.proofs.ReplyLaws.{replies, is-told, is_cut, begun, not-begun}
use Rattle.probe.proofs.view_asked.Goals as goal

pub returns-then-begins : goal.returns-then-begins
unfolding view_reply
returns-then-begins c = let p = c.args.p.now in
    replies (begun 5 p (told (view_text p)) (sym c.begins.ensures ∙ c.if-begins.true))
    (is-told c.viewed.ensures c.served.ensures)

pub returns : goal.returns
unfolding view_reply
returns c = let p = c.args.p.now in
    replies (not-begun 5 p (told (view_text p)) (sym c.begins.ensures ∙ c.if-begins.false))
    (is_cut c.cut.ensures)
