-- `block_size::has_sums` meets its contract.
use mathlib.Core.Path.{◌∙◌}
use Rattle.jobs.specs.Places.{job_of}
use Rattle.block_size.proofs.JudgeLaws.{sums-other, sums-second, sums-flags}
use Rattle.block_size.proofs.has_sums.Goals as goal

pub returns-then-body-ne38 : goal.returns-then-body-ne38
returns-then-body-ne38 c = sums-other (job_of 6 c.args.body.now) c.if-body-ne38.true

pub returns-then-body-ne0 : goal.returns-then-body-ne0
returns-then-body-ne0 c = sums-second (job_of 6 c.args.body.now) c.if-body-ne38.false c.if-body-ne0.true

pub returns : goal.returns
returns c = c.is_flags.ensures
    ∙ sums-flags (job_of 6 c.args.body.now) c.if-body-ne38.false c.if-body-ne0.false
