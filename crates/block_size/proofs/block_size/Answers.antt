-- `block_size::block_size` meets its contract, by the kind.
use mathlib.Core.Path.{sym, ◌∙◌}
use native.Mathlib.Omega.{arith}
use Rattle.def_jobs.specs.Jobs.{job_words}
use Rattle.jobs.specs.Places.{job_of}
use Rattle.jobs.proofs.KindLaws.{kind-is, kind-spans}
use Rattle.block_size.proofs.LayoutLaws.{as-words, as-times, as-echoes, length-block}
use Rattle.block_size.proofs.ZerosLaws.{zeros-most}
use Rattle.block_size.proofs.block_size.Goals as goal

pub overflow_mul-result-in-Chunks : goal.overflow_mul-result-in-Chunks
overflow_mul-result-in-Chunks c = let a = c.args in
    omega (arith, c.zeros_behind.ensures, zeros-most (job_words (job_of 1 a.body.now)) a.layout)

pub overflow_add-result-in-Chunks : goal.overflow_add-result-in-Chunks
overflow_add-result-in-Chunks c = let a = c.args in
    omega (arith, c.zeros_behind.ensures, zeros-most (job_words (job_of 1 a.body.now)) a.layout)

pub returns-in-Chunks : goal.returns-in-Chunks
returns-in-Chunks c = let a = c.args in
    omega (
      arith,
      c.saturating_sub.ensures,
      c.zeros_behind.ensures,
      as-words a.layout (job_of a.kind a.body.now) c.in-Chunks.field-0,
      length-block a.layout (job_of a.kind a.body.now)
          (kind-spans c.kind_of.ensures c.in-Some.is c.in-Spans.is c.in-Chunks.is),
    )

pub returns-in-Times : goal.returns-in-Times
returns-in-Times c = let a = c.args in
    omega (
      arith,
      c.saturating_sub-in-Times.ensures,
      as-times a.layout (job_of a.kind a.body.now),
      length-block a.layout (job_of a.kind a.body.now)
          (kind-spans c.kind_of.ensures c.in-Some.is c.in-Spans.is c.in-Times.is),
    )

pub returns-in-Clock : goal.returns-in-Clock
returns-in-Clock c = let a = c.args in
    sym (length-block a.layout (job_of a.kind a.body.now)
    (kind-is c.kind_of.ensures c.in-Some.is c.in-Clock.is))

pub returns-in-Echoes : goal.returns-in-Echoes
returns-in-Echoes c = let a = c.args in
    let j = job_of a.kind a.body.now in
    sym (length-block a.layout j (kind-is c.kind_of.ensures c.in-Some.is c.in-Echoes.is)
    ∙ as-echoes a.layout j)

pub returns-in-Statistics : goal.returns-in-Statistics
returns-in-Statistics c = let a = c.args in
    sym (length-block a.layout (job_of a.kind a.body.now)
    (kind-is c.kind_of.ensures c.in-Some.is c.in-Statistics.is))

pub returns-in-None : goal.returns-in-None
returns-in-None c = let a = c.args in
    sym (length-block a.layout (job_of a.kind a.body.now)
    (sym c.kind_of.ensures ∙ c.in-None.is))
