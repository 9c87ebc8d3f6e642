-- `print::slowly` meets its contract: a text byte by byte.
use Rattle.std.proofs.Common.{drop}
use Rattle.print.proofs.AddedLaws.{Adding}
use Rattle.print.proofs.slowly.Given as goal

abbrev pub invariant-loop-b : goal.invariant-loop-b
invariant-loop-b l =
    Adding l.initial.buf l.at l.t l.buf l.n (drop l.b-index l.t)
