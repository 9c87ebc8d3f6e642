-- `lent::fill` meets its contract: the pattern, all over a list.
use Rattle.std.proofs.Common.{◌≡◌, length, take}
use Rattle.lent.specs.Pattern.{pattern}
use Rattle.lent.proofs.fill.Given as goal

abbrev pub invariant-loop-i : goal.invariant-loop-i
invariant-loop-i g l =
    (length l.list ≡ length l.initial.list) × (take l.i l.list ≡ pattern g.T.Marked.mark_of 0 l.i)
