-- `block_size::is_block` meets its contract: a record is good where its block has bytes.
use Rattle.def_jobs.specs.declared.Layout.TheVariants.{Plain}
use Rattle.jobs.specs.Places.{job_of}
use Rattle.block_size.proofs.JudgedLaws.{is-judged}
use Rattle.block_size.proofs.is_block.Goals as goal

pub returns : goal.returns
returns c = let a = c.args in
    is-judged Plain (job_of a.kind a.body.now) c.judged_size.result c.judged_size.ensures
