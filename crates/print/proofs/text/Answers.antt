-- `print::text` meets its contract: at once where there is room, else byte by byte.
use native.Mathlib.Omega.{arith}
use Rattle.print.proofs.AddedLaws.{fits}
use Rattle.print.proofs.text.Goals as goal

pub returns-then-t-buf : goal.returns-then-t-buf
returns-then-t-buf c = fits (omega arith) c.copied.ensures
