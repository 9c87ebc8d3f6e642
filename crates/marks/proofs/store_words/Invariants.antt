-- `marks::store_words` meets its contract: the loop fills from the front.
use Prim.Native.Nat.{◌-◌, ◌≤◌, ◌<◌}
use lib.ListN.{length, drop}
use Rattle.def_marks.specs.Marks.{words_of}
use Rattle.laws.proofs.Filling.{Filling}
use Rattle.marks.proofs.store_words.Given as goal

abbrev pub invariant-loop-at : goal.invariant-loop-at
invariant-loop-at l =
    (l.at < 81919) × (l.n ≤ l.at) × Filling (words_of l.marks) l.initial.out l.out (words_of (drop l.at l.marks)) l.n

abbrev pub decreases-loop-at : goal.decreases-loop-at
decreases-loop-at l =
    length l.marks - l.at
