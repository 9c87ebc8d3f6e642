-- `misled::misled_echoes` meets its contract.
use Rattle.std.proofs.Common.{eq-eqb, ne_eqb}
use Rattle.misled.specs.Misled.{misled_echoes}
use Rattle.misled.proofs.misled_echoes.Goals as goal

pub returns-then-entries-ne1 : goal.returns-then-entries-ne1
unfolding misled_echoes
returns-then-entries-ne1 c = rw (ne_eqb _ _ c.if-entries-ne1.true)

pub returns : goal.returns
unfolding misled_echoes
returns c = rw (eq-eqb _ _ c.if-entries-ne1.false)
