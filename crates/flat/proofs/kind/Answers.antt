-- `flat::kind` meets its contract.
use Rattle.flat.proofs.FlatLaws.{kind-null, kind-skip, kind-run, kind-vector}
use Rattle.flat.proofs.kind.Goals as goal

pub returns-then-k-eq0 : goal.returns-then-k-eq0
returns-then-k-eq0 c = kind-null c.args.k c.args.value c.if-k-eq0.true

pub returns-then-k-eq1 : goal.returns-then-k-eq1
returns-then-k-eq1 c = let a = c.args in kind-skip a.k a.value c.if-k-eq0.false c.if-k-eq1.true

pub returns-then-k-eq2 : goal.returns-then-k-eq2
returns-then-k-eq2 c = let a = c.args in
    kind-run a.k a.value c.if-k-eq0.false c.if-k-eq1.false c.if-k-eq2.true

pub returns : goal.returns
returns c = let a = c.args in
    kind-vector a.k a.value c.if-k-eq0.false c.if-k-eq1.false c.if-k-eq2.false
