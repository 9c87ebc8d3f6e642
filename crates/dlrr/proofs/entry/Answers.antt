-- `dlrr::entry` meets its contract: the entry at a place.
use Rattle.dlrr.proofs.entry.Goals as goal

pub returns : goal.returns
returns c = rw (
  c.load32.ensures,
  c.load32-2.ensures,
  c.load32-3.ensures,
)
