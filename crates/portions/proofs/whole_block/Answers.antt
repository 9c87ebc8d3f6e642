-- `portions::whole_block` meets its contract: what it tests is what a whole block is.
use mathlib.Core.Path.{◌≡◌, sym, ◌∙◌}
use native.Mathlib.Omega.{arith}
use Rattle.utils.proofs.BytesLaws.{Bytes}
use Rattle.states.specs.Steps.{state, block}
use Rattle.portions.proofs.TurnLaws.{before-block, whole-at}
use Rattle.portions.proofs.whole_block.Goals as goal

pub returns-in-Ok-lost_fault : goal.returns-in-Ok-lost_fault
returns-in-Ok-lost_fault c n =
    let s = c.args.s in
    let bytes : Bytes c.args.x.now = λ i. (c.type_inv.x i).fits in
    let fresh : s ≡ state block 4 0 0 s.behind s.known =
    before-block s c.if-s-ne-BLOCK.false (omega arith) c.if-s-ne0.false c.if-s-ne0-2.false in
    whole-at s c.args.x.now c.args.at c.length_of-l.result c.load32-w.result bytes c.load32-w.ensures
    c.length_of-l.ensures.value fresh c.length_of-l.ensures.lower_bound.0
    (omega (arith, c.requires, c.if-left-l.false)) (sym c.block_fault.ensures ∙ c.in-Ok.is)
    (rw c.part.ensures.result_value at (sym c.lost_fault.ensures ∙ c.in-Ok-lost_fault.is))
