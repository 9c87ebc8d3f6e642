-- `xrmarks::input::read_marks` is safe: the count of marks fits.
use Rattle.std.proofs.Common.{◌*◌, ◌≤◌}
use Rattle.xrmarks.proofs.input.read_marks.Given as goal

abbrev pub invariant-loop-turn : goal.invariant-loop-turn
invariant-loop-turn l = l.count ≤ l._turn * 65536
