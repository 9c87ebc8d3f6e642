-- `range::passes` meets its contract: one law for each way that the tests go. Assumes nothing.
use Rattle.std.proofs.Common.{sym}
use Rattle.range.proofs.SequenceLaws.{passes-between, passes-below, passes-above, passes-ahead}
use Rattle.range.proofs.passes.Goals as goal

pub returns-then-end-s : goal.returns-then-end-s
returns-then-end-s c = sym (passes-between _ _ _ c.if-end-start.true c.if-end-s.true c.if-s-start.true)

pub returns-else-end-s : goal.returns-else-end-s
returns-else-end-s c = sym (passes-below _ _ _ c.if-end-start.true c.if-end-s.false)

pub returns-else-s-start : goal.returns-else-s-start
returns-else-s-start c = sym (passes-above _ _ _ c.if-end-start.true c.if-s-start.false)

pub returns : goal.returns
returns c = sym (passes-ahead _ _ _ c.if-end-start.false)
