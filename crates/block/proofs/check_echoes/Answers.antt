-- `block::check_echoes` meets its contract: 10, then 7, asked as type 5.
use Rattle.block.proofs.BlockLaws.{check-other, echoes-standard, echoes-short, echoes-crate}
use Rattle.def_wire.specs.declared.Kind.TheVariants.{Echoes}
use Rattle.def_wire.specs.Block.{type_of}
use mathlib.Core.Path.{◌≡◌, sym, ◌∙◌}
use Rattle.block.proofs.check_echoes.Goals as goal
use Rattle.block.proofs.check_echoes.Goals.{Else-t-ne-BLOCK_TYPE}

same : (e : Else-t-ne-BLOCK_TYPE) → type_of e.args.v.now ≡ 5
same e =
    sym e.type_of-t.ensures ∙ e.if-t-ne-BLOCK_TYPE.false

pub returns-then-t-ne-BLOCK_TYPE : goal.returns-then-t-ne-BLOCK_TYPE
returns-then-t-ne-BLOCK_TYPE c = let a = c.args in
    c.other.ensures ∙ (rw c.type_of-t.ensures (check-other a.r Echoes a.v.now
    (λ q. c.if-t-ne-BLOCK_TYPE.true (c.type_of-t.ensures ∙ q))))

pub returns-then-v-lt16 : goal.returns-then-v-lt16
returns-then-v-lt16 c = let a = c.args in
    c.rule-then-v-lt16.ensures ∙ echoes-short a.r a.v.now (same (goal.at.returns-then-v-lt16 c).Else-t-ne-BLOCK_TYPE) c.if-v-lt16.true c.in-Crate.is

pub returns-in-Standard : goal.returns-in-Standard
returns-in-Standard c = let a = c.args in
    c.rule.ensures
    ∙ echoes-standard a.r a.v.now (same (goal.at.returns-in-Standard c).Else-t-ne-BLOCK_TYPE) c.saturating_sub-over.result c.saturating_sub-over.ensures c.in-Standard.is

pub returns-else-v-lt16 : goal.returns-else-v-lt16
returns-else-v-lt16 c = let a = c.args in
    c.rule-in-Crate.ensures
    ∙ echoes-crate a.r a.v.now (same (goal.at.returns-else-v-lt16 c).Else-t-ne-BLOCK_TYPE) c.length_of-l.result c.length_of-l.ensures.0 c.if-v-lt16.false
    c.in-Crate.is
