-- `print::hex` meets its contract: two hexadecimal digits.
use Rattle.print.proofs.AddedLaws.{and_then, reads}
use Rattle.print.proofs.hex.Goals as goal

pub returns : goal.returns
returns c = reads (rw (c.glyph.ensures, c.glyph-2.ensures))
    (and_then c.byte-n.ensures c.byte.ensures)
