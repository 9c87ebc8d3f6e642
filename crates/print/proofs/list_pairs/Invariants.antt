-- `print::list_pairs` meets its contract: the first n of two lists side by side.
use Rattle.std.proofs.Common.{length, take, drop}
use Rattle.std.specs.List.{zip}
use Rattle.print.proofs.AddedLaws.{Adding}
use Rattle.print.proofs.ListLaws.{pairs_text}
use Rattle.print.proofs.list_pairs.Given as goal

abbrev pub invariant-loop-x : goal.invariant-loop-x
invariant-loop-x l =
    Adding l.initial.buf l.at (pairs_text (take l.n (zip l.numbers l.times))) l.buf l.to
    (pairs_text (drop (length l.yielded) (take l.n (zip l.numbers l.times))))
