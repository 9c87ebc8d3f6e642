-- `print::decimal_slowly` meets its contract: a number's digits, byte by byte.
use mathlib.Core.Path.{sym, ◌∙◌}
use Rattle.print.proofs.AddedLaws.{reads}
use Rattle.print.proofs.DigitLaws.{decimal-digits, at-most-20}
use borrow.Author.Rules.{rules}
use Rattle.print.proofs.decimal_slowly.Goals as goal

pub returns : goal.returns
returns c = let w = c.decimal-k.ensures.len in
    reads (c.decimal-k.ensures.digits ∙ sym (decimal-digits 19 _ _ (at-most-20 _ _ (search rules) w) w))
    c.slowly.ensures
