-- `marks::fault_from` meets its contract: by the place of the first bad byte.
use Rattle.std.proofs.Common.{drop, sym}
use Rattle.std.proofs.lemmas.List.{take_rest}
use Rattle.marks.proofs.PlaceLaws.{bad-at, bad-nowhere}
use Rattle.marks.proofs.fault_from.Goals as goal

pub returns-in-Some : goal.returns-in-Some
returns-in-Some c = let a = c.args in
    sym (bad-at a.from c.in-Some.i (drop a.from a.marks.now) (sym (rw (take_rest a.marks.now a.from) at c.in-Some.ensures)))

pub returns-in-None : goal.returns-in-None
returns-in-None c = let a = c.args in
    sym (bad-nowhere a.from (drop a.from a.marks.now) (sym (rw (take_rest a.marks.now a.from) at c.in-None.ensures)))
