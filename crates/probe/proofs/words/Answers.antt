-- `probe::words` meets its contract: chunk words, as the payload asks.
use Rattle.def_probe.specs.Requests.{words_text}
use Rattle.probe.proofs.words.Goals as goal

pub returns : goal.returns
unfolding words_text
returns c = rw (
  c.reading.ensures,
  c.behind.ensures,
  c.number.ensures,
  c.byte_at.ensures,
  c.number-2.ensures,
) at c.words.ensures
