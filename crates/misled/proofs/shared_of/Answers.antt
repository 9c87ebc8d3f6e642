-- `misled::shared_of` meets its contract: the block's range begins with begin where that is on the grid, else not.
use Rattle.std.proofs.Common.{◌≡◌, sym, ◌∙◌, arith, eq-eqb, ne_eqb}
use Rattle.def_standard.specs.Range.{range_of}
use Rattle.range.proofs.GridLaws.{begin-on-grid}
use Rattle.misled.proofs.MisledLaws.{shared-on, shared-off}
use Rattle.misled.proofs.shared_of.Goals as goal

pub returns-then-g-f : goal.returns-then-g-f
returns-then-g-f c = let f = c.args.f in
    let e : (range_of f).begin ≡ f.begin = rw (← c.range_of-g.ensures) c.if-g-f.true in
    c.range_of-g.ensures ∙ sym (shared-on f (sym (begin-on-grid f (omega arith)) ∙ eq-eqb _ _ e))

pub returns : goal.returns
returns c = let f = c.args.f in
    let n : (range_of f).begin ≡ f.begin → ⊥ = rw (← c.range_of-g.ensures) c.if-g-f.false in
    sym (shared-off f (sym (begin-on-grid f (omega arith)) ∙ ne_eqb _ _ n))
