-- `block_size::has_words` meets its contract.
use mathlib.Core.Path.{sym, ◌∙◌}
use Rattle.jobs.specs.Places.{job_of}
use Rattle.block_size.proofs.JudgeLaws.{words-clear, words-short}
use Rattle.block_size.proofs.has_words.Goals as goal

pub returns-then-has_fields : goal.returns-then-has_fields
returns-then-has_fields c = let a = c.args in
    words-clear (job_of 1 a.body.now) c.part.result.now c.has_lost_run_low.result
    (sym c.has_fields.ensures ∙ c.if-has_fields.true) c.part.ensures.result_value c.has_lost_run_low.ensures

pub returns : goal.returns
returns c = let a = c.args in
    words-short (job_of 1 a.body.now) (sym c.has_fields.ensures ∙ c.if-has_fields.false)
