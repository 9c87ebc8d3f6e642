-- `ones::weight` meets its contract: by the word's kind. Assumes nothing.
use Rattle.std.proofs.Common.{le-ltb, lt-ltb}
use Rattle.ones.proofs.weight.Goals as goal

pub returns-then-w-lt16384 : goal.returns-then-w-lt16384
returns-then-w-lt16384 c = simp (lt-ltb _ _ c.if-w-lt16384.true)

pub returns : goal.returns
returns c = simp (le-ltb _ _ c.if-w-lt16384.false) c.covers.ensures
