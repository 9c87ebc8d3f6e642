-- `probe::pairs` meets its contract: pairs, as the payload asks.
use Rattle.def_probe.specs.Requests.{pairs_text}
use Rattle.probe.proofs.pairs.Goals as goal

pub returns : goal.returns
unfolding pairs_text
returns c = rw (
  c.reading.ensures,
  c.behind.ensures,
  c.number.ensures,
  c.number-2.ensures,
) at c.pairs.ensures
