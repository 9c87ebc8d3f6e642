-- `marks::judge` meets its contract: block by block, and in a block that has a bad byte, from its start on.
use Rattle.std.proofs.Common.{sym, ◌∙◌, arith, length-drop, ap, length}
use Rattle.marked.proofs.FaultLaws.{bad-end}
use Rattle.marks.proofs.UnionLaws.{block-rest, block-within, block-marks}
use Rattle.marks.proofs.judge.Goals as goal

pub loop-block-preserved : goal.loop-block-preserved
loop-block-preserved c =
    let ms = c.args.marks.now in
    let i = c.loop-block.invariant in
    let s = c.in-Some.ensures.steps in
    let e = sym i.3 ∙ s.1.0 in (
      omega (arith, s.0, i.0),
      tt,
      s.0 ∙ i.2,
      block-rest ms c.loop-block.at _ _ e i.4,
      block-within ms c.loop-block.at _ _ e i.4,
      i.5 ∙ block-marks ms c.loop-block.at _ _ e i.4 (c.union.ensures.0 c.if-union-gt1.false),
    )

pub returns : goal.returns
returns c =
    let ms = c.args.marks.now in
    let i = c.loop-block.invariant in
    sym (i.5 ∙ bad-end c.loop-block.at c.loop-block.at ms
    (omega (arith, ap length i.3, length-drop c.loop-block.at ms, c.in-None.ensures.steps.1.0)))
