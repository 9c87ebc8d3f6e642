-- `print::list_entries` meets its contract: the first n of three lists side by side.
use Rattle.std.proofs.Common.{length, take, drop}
use Rattle.std.specs.List.{zip}
use Rattle.print.proofs.AddedLaws.{Adding}
use Rattle.print.proofs.ListLaws.{entries_text}
use Rattle.print.proofs.list_entries.Given as goal

abbrev pub invariant-loop-x : goal.invariant-loop-x
invariant-loop-x l =
    Adding l.initial.buf l.at (entries_text (take l.n (zip (zip l.a l.b) l.c))) l.buf l.to
    (entries_text (drop (length l.yielded) (take l.n (zip (zip l.a l.b) l.c))))
