-- `probe::parsed` meets its contract: a packet's blocks and sender, as the payload asks.
use Rattle.def_probe.specs.Requests.{parsed_text}
use Rattle.probe.proofs.parsed.Goals as goal

pub returns : goal.returns
unfolding parsed_text
returns c = rw (
  c.reading.ensures,
  c.behind.ensures,
) at c.parsed.ensures
