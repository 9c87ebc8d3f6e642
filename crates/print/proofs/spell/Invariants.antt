-- `print::spell` meets its contract: a number's last k digits, from the last one on.
use Rattle.print.proofs.DigitLaws.{Spelling}
use Rattle.print.proofs.spell.Given as goal

abbrev pub invariant-loop-i : goal.invariant-loop-i
invariant-loop-i l =
    Spelling l.initial.buf l.at l.k l.n l.buf l.i l.rest
