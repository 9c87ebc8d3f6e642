-- `xr::reach` meets its contract: block n is where it stands, and each need cites a law of one turn.
use mathlib.Core.Path.{◌≡◌}
use native.Mathlib.Omega.{arith}
use Rattle.xr.proofs.WalkTurn.{begun, turned, cut, reached, unreached}
use Rattle.xr.proofs.reach.Goals as goal

pub loop-n-init : goal.loop-n-init
loop-n-init c = let a = c.args in begun a.s.now a.stop c.requires.2

pub returns-then-stop-at : goal.returns-then-stop-at
returns-then-stop-at c = let a = c.args in
    reached a.s.now a.stop a.k c.loop-n.at c.loop-n.n c.loop-n.invariant (omega arith)
    (λ _. c.if-stop-at.true)

pub length_at-len-requires : goal.length_at-len-requires
length_at-len-requires c = omega (
  arith,
  c.loop-n.invariant.word,
  c.loop-n.invariant.before,
  c.requires.0,
  c.requires.1,
  c.if-stop-at.false,
)

pub returns-then-stop-at-2 : goal.returns-then-stop-at-2
returns-then-stop-at-2 c = let a = c.args in
    rw c.length_at-len.ensures.value
    (unreached a.s.now a.stop a.k c.loop-n.at _
    (cut a.s.now a.stop c.requires.0 c.loop-n.at c.loop-n.n c.loop-n.invariant c.if-stop-at.false
    (rw c.length_at-len.ensures.value at c.if-stop-at-2.true)))

pub loop-n-preserved : goal.loop-n-preserved
loop-n-preserved c = let a = c.args in
    rw c.length_at-len.ensures.value
    (turned a.s.now a.stop c.requires.0 c.loop-n.at c.loop-n.n c.loop-n.invariant c.if-stop-at.false
    (rw c.length_at-len.ensures.value at c.if-stop-at-2.false))

pub returns : goal.returns
returns c = let a = c.args in
    let e : c.loop-n.n ≡ a.k = omega arith in
    reached a.s.now a.stop a.k c.loop-n.at a.k (rw (← e) c.loop-n.invariant) (omega arith) (λ h. absurd (omega (arith, h)))
