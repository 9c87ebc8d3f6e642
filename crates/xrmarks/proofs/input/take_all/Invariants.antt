-- `xrmarks::input::take_all` meets its contract: a byte is at most one mark.
use Rattle.std.proofs.Common.{◌+◌, ◌≤◌}
use Rattle.xrmarks.proofs.input.take_all.Given as goal

abbrev pub invariant-loop-b : goal.invariant-loop-b
invariant-loop-b l = l.n ≤ l.count + l.b-index
