-- `lent::said_whole` meets its contract: a line `spoilt`, unless the memory is whole.
use mathlib.Core.Path.{sym, ap}
use Rattle.lent.specs.Telling.{unless_whole}
use Rattle.print.proofs.AddedLaws.{nothing, reads}
use Rattle.lent.proofs.said_whole.Goals as goal

pub returns-then-whole : goal.returns-then-whole
returns-then-whole c = reads (ap unless_whole (sym c.if-whole.true)) nothing

pub returns : goal.returns
returns c = reads (ap unless_whole (sym c.if-whole.false)) c.text.ensures
