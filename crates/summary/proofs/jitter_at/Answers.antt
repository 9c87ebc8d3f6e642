-- `summary::jitter_at` meets its contract: four numbers.
use Rattle.summary.proofs.jitter_at.Goals as goal

pub returns : goal.returns
returns c = rw (
  c.u32_from_be_bytes-4.ensures,
  c.u32_from_be_bytes-3.ensures,
  c.u32_from_be_bytes-2.ensures,
  c.u32_from_be_bytes.ensures,
)
