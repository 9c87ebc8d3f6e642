-- `print::decimal` meets its contract: at once where there is room, else byte by byte.
use mathlib.Core.Path.{sym}
use native.Mathlib.Omega.{arith}
use Rattle.print.proofs.AddedLaws.{reads, fits}
use Rattle.print.proofs.DigitLaws.{decimal-digits, length_digits}
use Rattle.print.proofs.decimal.Goals as goal

pub returns-then-k-buf : goal.returns-then-k-buf
returns-then-k-buf c = let d = c.places-k in
    reads (sym (decimal-digits 19 d.result _ d.ensures.1 d.ensures.0))
    (fits (rw (length_digits d.result _) (omega arith)) c.spell.ensures)
