-- `misled::misled_times` meets its contract: as many as each reading lists.
use Rattle.misled.specs.Misled.{misled_times}
use Rattle.misled.proofs.misled_times.Goals as goal

pub returns : goal.returns
unfolding misled_times
returns c = rw (
  c.min.ensures,
  c.inside_count.ensures,
  c.shared_of.ensures,
  c.min-listed.ensures,
  c.first_fail.ensures,
)
