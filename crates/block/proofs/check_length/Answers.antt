-- `block::check_length` meets its contract: 10, then 7 by the length. Assumes nothing.
use mathlib.Core.Path.{sym, ◌∙◌}
use Rattle.block.proofs.BlockLaws.{length-other, length-rule}
use Rattle.block.proofs.check_length.Goals as goal

pub returns-then-t-rle_type : goal.returns-then-t-rle_type
returns-then-t-rle_type c = let a = c.args in
    c.other.ensures ∙ (rw c.type_of-t.ensures (length-other a.a a.v.now
    (λ q. c.if-t-rle_type.true (c.type_of-t.ensures ∙ q ∙ sym c.rle_type.ensures))))

pub returns : goal.returns
returns c = let a = c.args in
    c.rule.ensures ∙ length-rule a.a a.v.now
    (sym c.type_of-t.ensures ∙ c.if-t-rle_type.false ∙ c.rle_type.ensures)
