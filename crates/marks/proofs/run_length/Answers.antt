-- `marks::run_length` meets its contract: from the fifteenth mark on, by fours and then one by one.
use native.Mathlib.Omega.{arith}
use Rattle.marks.proofs.RunLaws.{run_room}
use Rattle.marks.proofs.NextLaws.{run-found-here}
use Rattle.marks.proofs.run_length.Goals as goal

pub bounds-marks-at : goal.bounds-marks-at
bounds-marks-at c = omega (arith, run_room c.args.marks.now c.args.at c.requires.1)

pub overflow_sub-marks : goal.overflow_sub-marks
overflow_sub-marks c = omega (arith, run_room c.args.marks.now c.args.at c.requires.1)

pub overflow_add-at : goal.overflow_add-at
overflow_add-at c = omega (arith, run_room c.args.marks.now c.args.at c.requires.1)

pub past_fours-i-requires : goal.past_fours-i-requires
past_fours-i-requires c = let r = run_room c.args.marks.now c.args.at c.requires.1 in
    (c.requires.0, c.requires.0 c.args.at, omega (arith, r, c.min.ensures), omega (arith, r, c.min.ensures))

pub returns : goal.returns
returns c = run-found-here c.args.marks.now c.args.at c.requires.1 _ c.past_fours-i.result c.past_singles.result
    (rw c.min.ensures) c.past_fours-i.ensures.0 c.past_singles.ensures.0 c.past_singles.ensures.1
