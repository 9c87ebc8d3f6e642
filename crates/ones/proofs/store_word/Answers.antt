-- `ones::store_word` meets its contract: by the word's kind. Assumes nothing.
use Rattle.ones.proofs.WordLaws.{word-zeros, word_ones, word-vector}
use Rattle.ones.proofs.ListingLaws.{length-progression}
use Rattle.laws.proofs.Stores.{none}
use Rattle.std.proofs.Common.{◌%◌, min, length, ap, arith}
use Rattle.ones.proofs.store_word.Goals as goal

pub returns-then-w-lt16384 : goal.returns-then-w-lt16384
returns-then-w-lt16384 c = let a = c.args in
    rw (word-zeros a.step a.first a.room a.w c.if-w-lt16384.true) none

pub store_run-r-requires : goal.store_run-r-requires
store_run-r-requires c = let a = c.args in
    let e = word_ones a.step a.first a.room a.w c.if-w-lt16384.false c.if-w-lt32768.true in
    let k = length-progression a.step a.first (min a.room (a.w % 16384)) in
    omega (arith, c.requires, c.min-ones.ensures, c.run_length.ensures, ap length e, k)

pub returns-then-w-lt32768 : goal.returns-then-w-lt32768
returns-then-w-lt32768 c = let a = c.args in
    rw (word_ones a.step a.first a.room a.w c.if-w-lt16384.false c.if-w-lt32768.true)
    (rw (← c.run_length.ensures, ← c.min-ones.ensures) c.store_run-r.ensures.wrote)

pub store_vector-requires : goal.store_vector-requires
store_vector-requires c = let a = c.args in (
  c.if-w-lt32768.false,
  omega arith,
  rw (c.min.ensures, word-vector a.step a.first a.room a.w c.if-w-lt32768.false) c.requires,
)

pub returns : goal.returns
returns c = let a = c.args in
    rw (← word-vector a.step a.first a.room a.w c.if-w-lt32768.false, ← c.min.ensures)
    c.store_vector.ensures
