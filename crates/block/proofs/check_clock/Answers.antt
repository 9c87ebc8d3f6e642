-- `block::check_clock` meets its contract: 10, then 7, asked as type 4.
use Rattle.block.proofs.BlockLaws.{check-other, clock-standard, clock-crate}
use Rattle.def_wire.specs.declared.Kind.TheVariants.{Clock}
use Rattle.def_wire.specs.Block.{type_of}
use mathlib.Core.Path.{◌≡◌, sym, ◌∙◌}
use Rattle.block.proofs.check_clock.Goals as goal
use Rattle.block.proofs.check_clock.Goals.{Else-t-ne-BLOCK_TYPE}

same : (e : Else-t-ne-BLOCK_TYPE) → type_of e.args.v.now ≡ 4
same e =
    sym e.type_of-t.ensures ∙ e.if-t-ne-BLOCK_TYPE.false

pub returns-then-t-ne-BLOCK_TYPE : goal.returns-then-t-ne-BLOCK_TYPE
returns-then-t-ne-BLOCK_TYPE c = let a = c.args in
    c.other.ensures ∙ (rw c.type_of-t.ensures (check-other a.r Clock a.v.now
    (λ q. c.if-t-ne-BLOCK_TYPE.true (c.type_of-t.ensures ∙ q))))

pub returns-in-Standard : goal.returns-in-Standard
returns-in-Standard c = let a = c.args in
    c.rule.ensures ∙ clock-standard a.r a.v.now (same (goal.at.returns-in-Standard c).Else-t-ne-BLOCK_TYPE) c.in-Standard.is

pub returns-in-Crate : goal.returns-in-Crate
returns-in-Crate c = let a = c.args in
    c.rule-in-Crate.ensures ∙ clock-crate a.r a.v.now (same (goal.at.returns-in-Crate c).Else-t-ne-BLOCK_TYPE) c.in-Crate.is
