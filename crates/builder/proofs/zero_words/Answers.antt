-- `builder::zero_words` meets its contract: two stores for each word.
use mathlib.Core.Path.{◌≡◌, refl}
use Prim.Native.Nat.{◌+◌, suc}
use lib.ListN.{length-set}
use native.Mathlib.Omega.{arith}
use native.Mathlib.Numerals.{add-one}
use Rattle.laws.proofs.Stores.{none}
use Rattle.builder.proofs.zero_words.Goals as goal

pub returns-then-words-eq0 : goal.returns-then-words-eq0
returns-then-words-eq0 c = rw c.if-words-eq0.true none

pub returns-then-words-eq1 : goal.returns-then-words-eq1
returns-then-words-eq1 c = let at = c.args.at in
    rw c.if-words-eq1.true (record { stored = rw (add-one at); past = refl })

pub returns : goal.returns
returns c = let at = c.args.at in
    let two : c.args.words ≡ 2 = omega (arith, c.if-words-eq0.false, c.if-words-eq1.false) in
    let e2 : at + 2 ≡ suc (suc at) = omega arith in
    let e3 : at + 3 ≡ suc (suc (suc at)) = omega arith in
    rw two (record { stored = rw (add-one at, e2, e3); past = refl })

pub bounds-out-at : goal.bounds-out-at
bounds-out-at c = omega (arith, c.if-words-eq0.false)

pub bounds-out-at-2 : goal.bounds-out-at-2
bounds-out-at-2 c = simp length-set (omega (arith, c.if-words-eq0.false))

pub overflow_add-out-2 : goal.overflow_add-out-2
overflow_add-out-2 c = omega (arith, c.if-words-eq0.false, c.if-words-eq1.false)

pub bounds-out-at-3 : goal.bounds-out-at-3
bounds-out-at-3 c = simp length-set (omega (arith, c.if-words-eq0.false, c.if-words-eq1.false))

pub bounds-out-at-4 : goal.bounds-out-at-4
bounds-out-at-4 c = simp length-set (omega (arith, c.if-words-eq0.false, c.if-words-eq1.false))
