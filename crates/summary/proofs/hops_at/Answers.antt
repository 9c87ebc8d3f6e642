-- `summary::hops_at` meets its contract: four bytes.
use Rattle.summary.proofs.hops_at.Goals as goal

pub returns : goal.returns
returns c = rw (
  c.byte_at-4.ensures,
  c.byte_at-3.ensures,
  c.byte_at-2.ensures,
  c.byte_at.ensures,
)
