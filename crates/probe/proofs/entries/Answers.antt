-- `probe::entries` meets its contract: entries, as the payload asks.
use Rattle.def_probe.specs.Requests.{entries_text}
use Rattle.probe.proofs.entries.Goals as goal

pub returns : goal.returns
unfolding entries_text
returns c = rw (
  c.reading.ensures,
  c.behind.ensures,
  c.number.ensures,
  c.number-2.ensures,
) at c.entries.ensures
