-- `marks::make` meets its contract: room for a word for each 15 marks, or for as many as were counted; else 11.
use Rattle.std.specs.Prelude.{Ok}
use Prim.Native.Nat.{◌≤◌}
use mathlib.Core.Path.{refl}
use native.Mathlib.Omega.{arith}
use lib.ListN.{length}
use Rattle.def_marks.specs.Marks.{words_of}
use Rattle.laws.proofs.Answering.{listed, full}
use Rattle.marked.proofs.WordsLaws.{words-few}
use Rattle.marks.proofs.make.Goals as goal
use Rattle.marks.proofs.make.Goals.{Joined-min-marks, then-min-marks+else-out-need, else-min-marks}

room : (c : Joined-min-marks) → let a = c.args in
    length (words_of a.marks.now) ≤ length a.out.now
room c =
    elim c.if-min-marks.branch [
      | then-min-marks+else-out-need w ↦ omega (arith, w.count_words-need.ensures, w.if-out-need.false)
      | else-min-marks w ↦
          omega (arith, w.if-min-marks.false, c.min.ensures, words-few c.args.marks.now, c.requires.1)
    ]

pub returns-then-out-need : goal.returns-then-out-need
returns-then-out-need c = let a = c.args in
    let whole = words_of a.marks.now in
    full (Ok whole) a.out.now whole _ refl c.count_words-need.ensures c.if-out-need.true

pub store_words-requires : goal.store_words-requires
store_words-requires c = (c.requires.0, c.requires.1, room (goal.at.store_words-requires c).Joined-min-marks)

pub returns : goal.returns
returns c = let a = c.args in
    let whole = words_of a.marks.now in
    listed (Ok whole) a.out.now whole _ _ refl (room (goal.at.returns c).Joined-min-marks) c.store_words.ensures
