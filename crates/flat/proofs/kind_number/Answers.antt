-- `flat::kind_number` meets its contract.
use Rattle.flat.specs.Flat.{flat_chunk}
use mathlib.Core.Path.{sym, ap}
use Rattle.flat.proofs.kind_number.Goals as goal

pub returns-in-Null : goal.returns-in-Null
unfolding flat_chunk
returns-in-Null c = sym (ap flat_chunk c.in-Null.is)

pub returns-in-Skip : goal.returns-in-Skip
unfolding flat_chunk
returns-in-Skip c = sym (ap flat_chunk c.in-Skip.is)

pub returns-in-Run : goal.returns-in-Run
unfolding flat_chunk
returns-in-Run c = sym (ap flat_chunk c.in-Run.is)

pub returns-in-Vector : goal.returns-in-Vector
unfolding flat_chunk
returns-in-Vector c = sym (ap flat_chunk c.in-Vector.is)
