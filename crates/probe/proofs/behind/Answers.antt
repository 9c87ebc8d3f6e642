-- `probe::behind` meets its contract: what stands in a payload from an index on.
use mathlib.Core.Path.{◌∙◌}
use Rattle.probe.proofs.ReplyLaws.{all-behind}
use Rattle.probe.proofs.behind.Goals as goal

pub returns : goal.returns
returns c = c.part.ensures.result_value ∙ all-behind c.args.p.now c.args.at
