-- `xr::is_bad_padding` meets its contract.
use borrow.Author.Tests.{eq-eqb, ne_eqb}
use Rattle.xr.proofs.is_bad_padding.Goals as goal

pub returns-then-n-eq0 : goal.returns-then-n-eq0
returns-then-n-eq0 c = simp (eq-eqb _ _ c.if-n-eq0.true)

pub returns-then-n-ne0 : goal.returns-then-n-ne0
returns-then-n-ne0 c = simp (ne_eqb _ _ c.if-n-eq0.false, ne_eqb _ _ c.if-n-ne0.true)

pub returns : goal.returns
returns c = simp (ne_eqb _ _ c.if-n-eq0.false, eq-eqb _ _ c.if-n-ne0.false)
