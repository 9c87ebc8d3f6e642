-- `probe::viewed` meets its contract: a block's view, as the payload asks.
use Rattle.def_probe.specs.Requests.{view_text}
use Rattle.probe.proofs.viewed.Goals as goal

pub returns : goal.returns
unfolding view_text
returns c = rw (
  c.reading.ensures,
  c.behind.ensures,
  c.number.ensures,
) at c.viewed.ensures
