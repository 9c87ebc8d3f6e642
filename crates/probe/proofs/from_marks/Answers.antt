-- `probe::from_marks` meets its contract: words from marks, as the payload asks.
use Rattle.def_probe.specs.Requests.{marks_text}
use Rattle.probe.proofs.from_marks.Goals as goal

pub returns : goal.returns
unfolding marks_text
returns c = rw (
  c.behind.ensures,
  c.number.ensures,
) at c.made.ensures
