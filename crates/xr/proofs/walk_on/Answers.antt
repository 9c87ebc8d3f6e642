-- `xr::walk_on` meets its contract: block n is where it stands, and each need cites a law of one turn.
use Prim.Native.Nat.{◌-◌, ◌≤◌, ◌<◌}
use mathlib.Core.Path.{◌≡◌}
use native.Mathlib.Omega.{arith}
use Rattle.def_wire.specs.Packet.{length_at}
use Rattle.xr.proofs.WalkTurn.{turned, cut, ended}
use Rattle.xr.proofs.walk_on.Goals as goal
use Rattle.xr.proofs.walk_on.Goals.{After-length_at-len}

-- a block is left
more : (m : After-length_at-len) → m.loop-left.at < m.args.stop
more m =
    omega (arith, m.loop-left.invariant.1, m.loop-left-test.true)

pub overflow_sub-left : goal.overflow_sub-left
overflow_sub-left c = c.requires.2.before

pub loop-left-init : goal.loop-left-init
loop-left-init c = (c.requires.2, omega (arith, c.requires.2.before))

pub length_at-len-requires : goal.length_at-len-requires
length_at-len-requires c = omega (
  arith,
  c.loop-left.invariant.0.word,
  c.loop-left.invariant.1,
  c.requires.0,
  c.requires.1,
  c.loop-left-test.true,
)

pub returns-then-left-len : goal.returns-then-left-len
returns-then-left-len c = let a = c.args in
    let e : c.loop-left.left ≡ a.stop - c.loop-left.at = omega (arith, c.loop-left.invariant.1) in
    let h : a.stop - c.loop-left.at < length_at a.s.now c.loop-left.at = omega
    (arith, e, c.length_at-len.ensures.value, c.if-left-len.true) in
    rw (c.length_at-len.ensures.value, e) (cut a.s.now a.stop c.requires.0 c.loop-left.at c.loop-left.n
    c.loop-left.invariant.0 (more (goal.at.returns-then-left-len c).After-length_at-len) h)

pub loop-left-smaller : goal.loop-left-smaller
loop-left-smaller c = omega (arith, c.length_at-len.ensures.value, c.if-left-len.false)

pub loop-left-preserved : goal.loop-left-preserved
loop-left-preserved c = let a = c.args in
    let h : length_at a.s.now c.loop-left.at ≤ a.stop - c.loop-left.at = omega
    (arith, c.loop-left.invariant.1, c.length_at-len.ensures.value, c.if-left-len.false) in
    rw c.length_at-len.ensures.value (
      turned a.s.now a.stop c.requires.0 c.loop-left.at c.loop-left.n c.loop-left.invariant.0 (more (goal.at.loop-left-preserved c).After-length_at-len) h,
      omega (arith, c.loop-left.invariant.1, h),
    )

pub returns : goal.returns
returns c = let a = c.args in
    ended a.s.now a.stop c.loop-left.at c.loop-left.n c.loop-left.invariant.0
    (omega (arith, c.loop-left.invariant.1, c.loop-left-test.false))
