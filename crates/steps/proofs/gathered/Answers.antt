-- `steps::gathered` meets its contract: the bytes that are left make the number that all of them make.
use Rattle.std.proofs.Common.{◌≡◌, ◌+◌, ◌-◌, ℕ, take, drop, sym, ap, ◌∙◌, arith}
use Rattle.steps.proofs.HeldLaws.{held-skipped, held_next, held_none}
use Rattle.states.specs.Steps.{held_over}
use Rattle.steps.proofs.gathered.Goals as goal

pub returns-then-item-eq-SKIPPED : goal.returns-then-item-eq-SKIPPED
returns-then-item-eq-SKIPPED c = held-skipped _ _ _ c.if-item-eq-SKIPPED.true

pub loop-b-preserved : goal.loop-b-preserved
loop-b-preserved c = let a = c.args in
    let bs = take (a.from + a.m - a.from) (drop a.from a.x.now) in
    rw c.more-h.ensures (sym (held_next a.item c.loop-b.h c.loop-b.b-index bs c.loop-b-test.true) ∙ c.loop-b.invariant)

pub returns : goal.returns
returns c = let a = c.args in
    let bs = take (a.from + a.m - a.from) (drop a.from a.x.now) in
    let e : a.from + a.m - a.from ≡ a.m = omega arith in
    let h = sym (held_none a.item c.loop-b.h c.loop-b.b-index bs c.loop-b-test.false) ∙ c.loop-b.invariant in
    h ∙ ap (λ (k : ℕ). held_over a.item a.held (take k (drop a.from a.x.now))) e
