-- `probe::listed` meets its contract: kind 2: numbers, pairs or entries, or `cut`.
use mathlib.Core.Path.{sym, ◌∙◌}
use Rattle.def_probe.specs.Requests.{list_reply, typed_reply}
use Rattle.probe.proofs.ReplyLaws.{replies, is_cut, not-begun}
use Rattle.probe.proofs.KindLaws.{list-begun}
use Rattle.def_wire.specs.Bytes.{byte_at}
use Rattle.probe.proofs.listed.Goals as goal

pub returns-then-begins : goal.returns-then-begins
returns-then-begins c = replies (list-begun c.args.p.now _ c.byte_at.ensures (sym c.begins.ensures ∙ c.if-begins.true))
    c.typed.ensures

pub returns : goal.returns
unfolding list_reply
returns c = let p = c.args.p.now in
    replies (not-begun 10 p (typed_reply (byte_at p 5) p) (sym c.begins.ensures ∙ c.if-begins.false))
    (is_cut c.cut.ensures)
