-- `summary::sums_at` meets its contract: all numbers as they stand.
use Rattle.summary.proofs.sums_at.Goals as goal

pub returns : goal.returns
returns c = cc
