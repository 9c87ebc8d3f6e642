-- `probe::parse_asked` meets its contract: kind 8: a packet's blocks and sender, or `cut`.
use mathlib.Core.Path.{sym, ◌∙◌}
use Rattle.def_probe.specs.Requests.{told, parsed_reply, parsed_text}
use Rattle.probe.proofs.ReplyLaws.{replies, is-told, is_cut, begun, not-begun}
use Rattle.probe.proofs.parse_asked.Goals as goal

pub returns-then-begins : goal.returns-then-begins
unfolding parsed_reply
returns-then-begins c = let p = c.args.p.now in
    replies (begun 1 p (told (parsed_text p)) (sym c.begins.ensures ∙ c.if-begins.true))
    (is-told c.parsed.ensures c.served.ensures)

pub returns : goal.returns
unfolding parsed_reply
returns c = let p = c.args.p.now in
    replies (not-begun 1 p (told (parsed_text p)) (sym c.begins.ensures ∙ c.if-begins.false))
    (is_cut c.cut.ensures)
