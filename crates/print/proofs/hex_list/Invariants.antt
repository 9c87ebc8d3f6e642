-- `print::hex_list` meets its contract: the first n bytes of a list, in hexadecimal digits.
use Rattle.std.proofs.Common.{length, take, drop}
use Rattle.print.proofs.AddedLaws.{Adding}
use Rattle.def_text.specs.Numerals.{hexes_of}
use Rattle.print.proofs.hex_list.Given as goal

abbrev pub invariant-loop-b : goal.invariant-loop-b
invariant-loop-b l =
    Adding l.initial.buf l.at (hexes_of (take l.n l.list)) l.buf l.to
    (hexes_of (drop (length l.yielded) (take l.n l.list)))
