-- `probe::chunk_asked` meets its contract: the kind of a chunk word by a number.
use Rattle.probe.proofs.KindLaws.{chunk-null, chunk-skip, chunk-run, chunk-vector}
use Rattle.probe.proofs.chunk_asked.Goals as goal

pub returns-then-k-eq0 : goal.returns-then-k-eq0
returns-then-k-eq0 c = chunk-null _ _ c.if-k-eq0.true

pub returns-then-k-eq1 : goal.returns-then-k-eq1
returns-then-k-eq1 c = chunk-skip _ _ c.if-k-eq1.true

pub returns-then-k-eq2 : goal.returns-then-k-eq2
returns-then-k-eq2 c = chunk-run _ _ c.if-k-eq2.true

pub returns : goal.returns
returns c = chunk-vector _ _ c.if-k-eq0.false c.if-k-eq1.false c.if-k-eq2.false
