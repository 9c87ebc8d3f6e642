-- `probe::stretch` meets its contract: a stretch, as the payload asks.
use Rattle.def_probe.specs.Requests.{stretch_text}
use Rattle.probe.proofs.stretch.Goals as goal

pub returns : goal.returns
unfolding stretch_text
returns c = rw (
  c.number.ensures,
  c.number-2.ensures,
  c.number-3.ensures,
  c.byte_at-t.ensures,
  c.behind.ensures,
  c.number-4.ensures,
  c.number-5.ensures,
  c.number-6.ensures,
) at c.stretch.ensures
