-- `probe::written` meets its contract: a packet, as the payload asks.
use Rattle.def_probe.specs.Requests.{written_text}
use Rattle.probe.proofs.written.Goals as goal

pub returns : goal.returns
unfolding written_text
returns c = rw (
  c.behind.ensures,
  c.number.ensures,
) at c.written.ensures
