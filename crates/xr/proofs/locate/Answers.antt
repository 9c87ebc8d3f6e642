-- `xr::locate` meets its contract: the header refuses, or the block is looked for.
use Rattle.laws.proofs.Passing.{handed-on}
use mathlib.Core.Path.{sym, ◌∙◌}
use Rattle.xr.proofs.WalkLaws.{located-refused}
use Rattle.xr.proofs.locate.Goals as goal

pub find-requires : goal.find-requires
find-requires c = sym c.header.ensures ∙ c.in_ok-stop.was

pub returns-in_err-stop : goal.returns-in_err-stop
returns-in_err-stop c = let a = c.args in
    rw (handed-on _ _ c.from_residual.ensures) (located-refused a.r a.s.now a.k c.in_err-stop.field-0.0 (sym c.header.ensures ∙ c.in_err-stop.was))
