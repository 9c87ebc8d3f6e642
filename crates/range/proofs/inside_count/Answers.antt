-- `range::inside_count` meets its contract: it is the division rounded up. Assumes nothing.
use Rattle.range.specs.Inside.{inside_count}
use Rattle.range.proofs.inside_count.Goals as goal

pub returns : goal.returns
unfolding inside_count
returns c = c.ceil_shift.ensures
