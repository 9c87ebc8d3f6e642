-- `print::list16` meets its contract: the first n of a list of 16-bit numbers, a space before each.
use Rattle.std.proofs.Common.{length, take, drop}
use Rattle.print.proofs.AddedLaws.{Adding}
use Rattle.def_text.specs.Numerals.{spaced_all}
use Rattle.print.proofs.list16.Given as goal

abbrev pub invariant-loop-x : goal.invariant-loop-x
invariant-loop-x l =
    Adding l.initial.buf l.at (spaced_all (take l.n l.list)) l.buf l.to
    (spaced_all (drop (length l.yielded) (take l.n l.list)))
