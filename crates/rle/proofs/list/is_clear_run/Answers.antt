-- `rle::list::is_clear_run` meets its contract: test by test. Assumes nothing.
use borrow.Author.Tests.{le-leb, lt-leb, lt-ltb, le-ltb}
use Rattle.rle.proofs.list.is_clear_run.Goals as goal

pub returns-then-w-lt16384 : goal.returns-then-w-lt16384
returns-then-w-lt16384 c = rw (lt-leb _ _ c.if-w-lt16384.true)

pub returns-then-w-ge32768 : goal.returns-then-w-ge32768
returns-then-w-ge32768 c = rw (le-leb _ _ c.if-w-lt16384.false, le-ltb _ _ c.if-w-ge32768.true)

pub returns : goal.returns
returns c = rw (le-leb _ _ c.if-w-lt16384.false, lt-ltb _ _ c.if-w-ge32768.false, c.run_length.ensures)
