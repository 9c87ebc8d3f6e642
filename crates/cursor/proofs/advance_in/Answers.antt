-- `cursor::advance_in` meets its contract: the same of block k of a packet.
use Rattle.laws.proofs.Passing.{handed-on}
use Rattle.cursor.proofs.AdvanceLaws.{stretched-at, stretched-missing}
use mathlib.Core.Path.{sym, ◌∙◌}
use Rattle.cursor.proofs.advance_in.Goals as goal

pub returns : goal.returns
returns c = let a = c.args in
    stretched-at a.s.now a.k a.a a.c a.budget a.out.now c.in_ok-at.at
    c.in_ok-at.n _ c.advance.result _
    (sym c.locate.ensures ∙ c.in_ok-at.was) c.part.ensures.result_value c.advance.ensures

pub returns-in_err-at : goal.returns-in_err-at
returns-in_err-at c = let a = c.args in
    rw (handed-on _ _ c.from_residual.ensures) (stretched-missing a.s.now a.k a.a a.c a.budget a.out.now c.in_err-at.field-0.0
    (sym c.locate.ensures ∙ c.in_err-at.was))
