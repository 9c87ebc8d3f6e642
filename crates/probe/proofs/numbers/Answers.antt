-- `probe::numbers` meets its contract: numbers, as the payload asks.
use Rattle.def_probe.specs.Requests.{numbers_text}
use Rattle.probe.proofs.numbers.Goals as goal

pub returns : goal.returns
unfolding numbers_text
returns c = rw (
  c.reading.ensures,
  c.behind.ensures,
  c.number.ensures,
  c.byte_at.ensures,
  c.number-2.ensures,
) at c.numbers.ensures
