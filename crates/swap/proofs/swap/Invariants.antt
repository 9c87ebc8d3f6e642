-- `swap::swap`: the numbers between `from` and k are stored, between `at` and n.
use Prim.Native.Nat.{◌-◌}
use lib.ListN.{length}
use Rattle.swap.proofs.Turn.{Going}
use Rattle.swap.proofs.swap.Given as goal

abbrev pub invariant-loop-k : goal.invariant-loop-k
invariant-loop-k g l = Going g.W.Width.swapped l.body l.from l.initial.out l.at l.out l.k l.n

abbrev pub decreases-loop-k : goal.decreases-loop-k
decreases-loop-k g l = length l.body - l.k

abbrev pub invariant-loop-k-2 : goal.invariant-loop-k-2
invariant-loop-k-2 g l = Going g.W.Width.swapped l.body l.from l.fn.out l.at l.out l.k l.n

abbrev pub decreases-loop-k-2 : goal.decreases-loop-k-2
decreases-loop-k-2 g l = length l.body - l.k
