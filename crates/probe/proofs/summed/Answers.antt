-- `probe::summed` meets its contract: a block's summary, as the payload asks.
use Rattle.def_probe.specs.Requests.{summary_text}
use Rattle.probe.proofs.summed.Goals as goal

pub returns : goal.returns
unfolding summary_text
returns c = rw (
  c.behind.ensures,
  c.number.ensures,
) at c.summed.ensures
