-- `marks::count_words` meets its contract: word by word.
use mathlib.Core.Path.{refl, ap}
use mathlib.Core.List.{[], ◌∷◌}
use native.Mathlib.Omega.{arith}
use lib.ListN.{length, drop}
use Rattle.def_marks.specs.Marks.{word_for}
use Rattle.laws.proofs.Filling.{counted}
use Rattle.marked.proofs.WordsLaws.{taken-least, taken-most}
use Rattle.marks.proofs.WordsTurn.{words-none, words-ahead}
use Rattle.marks.proofs.count_words.Goals as goal

pub overflow_add-at : goal.overflow_add-at
overflow_add-at c = let ms = c.args.marks.now in
    omega (arith, c.loop-at.invariant.0, c.taken-at.ensures, taken-most (drop c.loop-at.at ms))

pub loop-at-smaller : goal.loop-at-smaller
loop-at-smaller c = let ms = c.args.marks.now in
    omega (arith, c.loop-at-test.true, c.taken-at.ensures, taken-least (drop c.loop-at.at ms))

pub loop-at-preserved : goal.loop-at-preserved
loop-at-preserved c = let ms = c.args.marks.now in
    let t = c.taken-at.ensures in
    let w = word_for (drop c.loop-at.at ms) in (
      omega (arith, c.loop-at-test.true, t, taken-most (drop c.loop-at.at ms)),
      omega (arith, t, taken-least (drop c.loop-at.at ms)),
      counted (w ∷ []) (words-ahead ms c.loop-at.at c.loop-at-test.true (refl, t)) refl c.loop-at.invariant.2,
    )

pub returns : goal.returns
returns c = let ms = c.args.marks.now in
    omega (arith, c.loop-at.invariant.2.count, ap length (words-none ms c.loop-at.at (omega (arith, c.loop-at-test.false))))
