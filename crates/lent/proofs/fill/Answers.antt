-- `lent::fill` meets its contract: the pattern, all over a list.
use Rattle.std.proofs.Common.{refl, sym, ap, ◌∙◌, length, ◌≡◌, arith}
use lib.ListN.{length-set}
use lib.Seq.{take_all}
use Rattle.lent.specs.Pattern.{pattern}
use Rattle.lent.proofs.PatternLaws.{pattern-next, pattern-none}
use Rattle.lent.proofs.fill.Goals as goal

pub loop-i-init : goal.loop-i-init
loop-i-init g c = (refl, pattern-none g.T.Marked.mark_of)

pub loop-i-preserved : goal.loop-i-preserved
loop-i-preserved g c = let l = c.loop-i in
    let x = c.mark.result in (
      length-set l.list l.i x ∙ l.invariant.0,
      pattern-next g.T.Marked.mark_of l.list l.i x (omega arith) c.mark.ensures l.invariant.1,
    )

pub returns : goal.returns
returns g c = let l = c.loop-i in
    let e : l.i ≡ length c.args.list.now = omega arith in
    sym (take_all l.i l.list (omega arith)) ∙ l.invariant.1 ∙ ap (pattern g.T.Marked.mark_of 0) e
