-- `xr::count` meets its contract.
use Rattle.laws.proofs.Passing.{handed-on}
use mathlib.Core.Path.{sym, ◌∙◌}
use Rattle.xr.proofs.HeaderLaws.{header-fine}
use Rattle.xr.proofs.WalkLaws.{count-walked, count-refused}
use Rattle.xr.proofs.count.Goals as goal

pub walk-w-requires : goal.walk-w-requires
walk-w-requires c = let a = c.args in
    let f = header-fine a.r a.s.now c.in_ok-stop.stop
    (sym c.header.ensures ∙ c.in_ok-stop.was) in
    (f.within, f.whole, f.least)

pub returns : goal.returns
returns c = let a = c.args in
    c.walk-w.ensures.counted ∙ count-walked a.r a.s.now c.in_ok-stop.stop
    (sym c.header.ensures ∙ c.in_ok-stop.was)

pub returns-in_err-stop : goal.returns-in_err-stop
returns-in_err-stop c = let a = c.args in
    rw (handed-on _ _ c.from_residual.ensures) (count-refused a.r a.s.now c.in_err-stop.field-0.0 (sym c.header.ensures ∙ c.in_err-stop.was))
