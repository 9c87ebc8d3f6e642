-- `packet_size::judged_first` meets its contract.
use mathlib.Core.Path.{sym, ◌∙◌}
use Rattle.packet_size.proofs.FirstLaws.{judged-at, judged-cut}
use Rattle.packet_size.proofs.judged_first.Goals as goal

pub returns-then-is_whole : goal.returns-then-is_whole
returns-then-is_whole c = let a = c.args in
    c.judged_size.ensures
    ∙ judged-at a.list.now c.kind_at.result c.body_at.result.now c.kind_at.ensures
    c.body_at.ensures.result_value a.layout (sym c.is_whole.ensures ∙ c.if-is_whole.true)

pub returns-else-is_whole : goal.returns-else-is_whole
returns-else-is_whole c = let a = c.args in
    judged-cut a.list.now a.layout (sym c.is_whole.ensures ∙ c.if-is_whole.false)
