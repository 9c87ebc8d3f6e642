-- `xr::find` meets its contract: each way out cites a law of `found`.
use Rattle.laws.proofs.Passing.{handed-on}
use Rattle.std.specs.Prelude.{Ok}
use Prim.Native.Nat.{ℕ}
use mathlib.Core.Path.{sym, ap, ◌∙◌}
use native.Mathlib.Omega.{arith}
use lib.ListN.{length}
use Rattle.def_wire.specs.Packet.{size_at}
use Rattle.xr.proofs.HeaderLaws.{Fine, header-fine}
use Rattle.xr.proofs.WalkLaws.{found-done, found_none, found-cut, found-located, walk-within, place-zero}
use Rattle.xr.proofs.find.Goals as goal
use Rattle.xr.proofs.find.Goals.{Start}

fine : (e : Start) → Fine e.args.s.now e.args.stop
fine e =
    header-fine e.args.r e.args.s.now e.args.stop e.requires

pub walk-w-requires : goal.walk-w-requires
walk-w-requires c = let f = fine (goal.at.walk-w-requires c).Start in (f.within, f.whole, f.least)

pub at_place-requires : goal.at_place-requires
at_place-requires c = let a = c.args in
    let f = fine (goal.at.at_place-requires c).Start in
    let t = walk-within a.s.now a.stop (length a.s.now) 0 c.in_ok-n.n a.k
    (rw (place-zero a.s.now) (sym c.walk-w.ensures.counted ∙ c.in_ok-n.was)) (omega arith) c.if-k-n.true in
    omega (arith, t, f.within, c.walk-w.ensures.placed c.in_ok-n.n c.in_ok-n.was c.if-k-n.true)

pub returns-then-k-n : goal.returns-then-k-n
returns-then-k-n c = let a = c.args in
    c.at_place.ensures
    ∙ ap (λ (p : ℕ). Ok (p, size_at a.r a.s.now p))
    (c.walk-w.ensures.placed c.in_ok-n.n c.in_ok-n.was c.if-k-n.true)
    ∙ found-done a.r a.s.now a.stop a.k c.in_ok-n.n
    (sym c.walk-w.ensures.counted ∙ c.in_ok-n.was)
    c.if-k-n.true
    ∙ found-located a.r a.s.now a.stop a.k c.requires

pub returns : goal.returns
returns c = let a = c.args in
    found_none a.r a.s.now a.stop a.k c.in_ok-n.n
    (sym c.walk-w.ensures.counted ∙ c.in_ok-n.was)
    c.if-k-n.false
    ∙ found-located a.r a.s.now a.stop a.k c.requires

pub returns-in_err-n : goal.returns-in_err-n
returns-in_err-n c = let a = c.args in
    rw (handed-on _ _ c.from_residual.ensures) (found-cut a.r a.s.now a.stop a.k c.in_err-n.field-0.0
    (sym c.walk-w.ensures.counted ∙ c.in_err-n.was)
    ∙ found-located a.r a.s.now a.stop a.k c.requires)
