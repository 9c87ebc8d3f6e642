-- `ones::stop_at` meets its contract: by the word's kind and the first place that fails. Assumes nothing.
use Rattle.ones.proofs.StopLaws.{stop-zeros, stop-clear, stop-ones}
use Rattle.range.specs.Failing.{first_fail}
use Rattle.def_standard.specs.Chunks.{covers_of}
use Rattle.std.proofs.Common.{◌<◌, ◌≤◌, sym, ◌∙◌, arith}
use Rattle.ones.proofs.stop_at.Goals as goal

pub returns-then-covered-first : goal.returns-then-covered-first
returns-then-covered-first c = let a = c.args in
    let k : covers_of a.w ≤ first_fail a.start a.end a.thinning =
    omega (arith, c.covers-covered.ensures, c.requires, c.if-covered-first.true) in
    c.covers-covered.ensures ∙ sym (stop-clear a.start a.end a.thinning a.w (omega arith) (omega arith) k)

pub returns-then-w-lt16384 : goal.returns-then-w-lt16384
returns-then-w-lt16384 c = let a = c.args in
    c.covers-covered.ensures ∙ sym (stop-zeros a.start a.end a.thinning a.w c.if-w-lt16384.true)

pub returns-then-w-lt32768 : goal.returns-then-w-lt32768
returns-then-w-lt32768 c = let a = c.args in
    let k : first_fail a.start a.end a.thinning < covers_of a.w =
    omega (arith, c.covers-covered.ensures, c.requires, c.if-covered-first.false) in
    let ones = stop-ones a.start a.end a.thinning a.w (omega arith) (omega arith) in
    c.requires ∙ sym (ones c.if-w-lt16384.false c.if-w-lt32768.true k)
