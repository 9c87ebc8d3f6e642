-- `packet_size::is_header_first` meets its contract.
use mathlib.Core.Path.{sym, ◌∙◌}
use Rattle.packet_size.proofs.FirstLaws.{header_at, header-cut}
use Rattle.packet_size.proofs.is_header_first.Goals as goal

pub returns-then-is_whole : goal.returns-then-is_whole
returns-then-is_whole c = let a = c.args in
    c.is_header.ensures
    ∙ header_at a.list.now c.kind_at.result c.body_at.result.now c.kind_at.ensures
    c.body_at.ensures.result_value (sym c.is_whole.ensures ∙ c.if-is_whole.true)

pub returns-else-is_whole : goal.returns-else-is_whole
returns-else-is_whole c = header-cut c.args.list.now (sym c.is_whole.ensures ∙ c.if-is_whole.false)
