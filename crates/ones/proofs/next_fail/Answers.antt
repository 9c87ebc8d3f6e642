-- `ones::next_fail` meets its contract: by the laws of a moved start. Assumes nothing.
use Rattle.range.proofs.NextLaws.{next-never, next-less}
use Rattle.std.proofs.Common.{sym, ◌∙◌, arith}
use Rattle.ones.proofs.next_fail.Goals as goal

pub returns-then-start-end : goal.returns-then-start-end
returns-then-start-end c = let a = c.args in
    let n = c.if-first-eq-NEVER.true in
    let k = next-never a.start a.end a.thinning a.covered (omega arith) (omega arith) in
    rw c.requires.1 (n ∙ sym (k c.if-start-end.true (sym c.requires.0 ∙ n)))

pub returns-then-covered-first : goal.returns-then-covered-first
returns-then-covered-first c = let a = c.args in
    let k = next-less a.start a.end a.thinning a.covered (omega arith) (omega arith) in
    rw (c.requires.1, c.requires.0)
    (k (omega (arith, c.requires.0, c.if-covered-first.true)) (λ n. c.if-first-eq-NEVER.false (c.requires.0 ∙ n)))
