-- `probe::made` meets its contract: a chunk word, as the payload asks.
use Rattle.def_probe.specs.Requests.{made_text}
use Rattle.probe.proofs.made.Goals as goal

pub returns : goal.returns
unfolding made_text
returns c = rw (
  c.chunk_asked-chunk.ensures,
  c.byte_at.ensures,
  c.u32_from_le_bytes.ensures,
  c.number.ensures,
) at c.made.ensures
