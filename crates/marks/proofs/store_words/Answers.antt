-- `marks::store_words` meets its contract: the loop fills from the front.
use native.Mathlib.Omega.{arith}
use lib.ListN.{drop}
use Rattle.laws.proofs.Filling.{within, put, done}
use Rattle.marked.proofs.WordsLaws.{taken-least, taken-most}
use Rattle.marks.proofs.WordsTurn.{words-none, words-ahead}
use Rattle.marks.proofs.store_words.Goals as goal

pub bounds-out-n : goal.bounds-out-n
bounds-out-n c = let ms = c.args.marks.now in
    within (words-ahead ms c.loop-at.at c.loop-at-test.true c.next_word-s.ensures) c.loop-at.invariant.2

pub overflow_add-at : goal.overflow_add-at
overflow_add-at c = let ms = c.args.marks.now in
    omega (arith, c.loop-at.invariant.0, c.next_word-s.ensures.1, taken-most (drop c.loop-at.at ms))

pub loop-at-smaller : goal.loop-at-smaller
loop-at-smaller c = let ms = c.args.marks.now in
    omega (arith, c.loop-at-test.true, c.next_word-s.ensures.1, taken-least (drop c.loop-at.at ms))

pub loop-at-preserved : goal.loop-at-preserved
loop-at-preserved c = let ms = c.args.marks.now in
    let t = c.next_word-s.ensures in (
      omega (arith, c.loop-at-test.true, t.1, taken-most (drop c.loop-at.at ms)),
      omega (arith, t.1, taken-least (drop c.loop-at.at ms)),
      put (words-ahead ms c.loop-at.at c.loop-at-test.true t) c.loop-at.invariant.2,
    )

pub returns : goal.returns
returns c = let ms = c.args.marks.now in
    done (words-none ms c.loop-at.at (omega (arith, c.loop-at-test.false))) c.loop-at.invariant.2
