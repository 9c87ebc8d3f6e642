-- `block_size::judged_size` meets its contract, by the kind.
use mathlib.Core.Path.{refl, sym, ◌∙◌}
use native.Mathlib.Omega.{arith}
use borrow.Author.Tests.{eq-eqb, ne_eqb}
use Rattle.def_jobs.specs.Jobs.{job_words}
use Rattle.jobs.specs.Places.{job_of}
use Rattle.jobs.proofs.KindLaws.{kind-is, kind-spans}
use Rattle.block_size.proofs.JudgedLaws.{judged-good, judged-bad, judged-words, judged-times, judged-echoes}
use Rattle.block_size.proofs.ZerosLaws.{zeros-most}
use Rattle.block_size.proofs.judged_size.Goals as goal

pub overflow_mul-result : goal.overflow_mul-result
overflow_mul-result c = omega (arith, c.zeros_behind.ensures, zeros-most (job_words (job_of c.args.kind c.args.body.now)) c.args.layout)

pub overflow_add-result-then-has_words : goal.overflow_add-result-then-has_words
overflow_add-result-then-has_words c = omega (arith, c.zeros_behind.ensures, zeros-most (job_words (job_of c.args.kind c.args.body.now)) c.args.layout)

pub returns-then-has_words : goal.returns-then-has_words
returns-then-has_words c = let e = kind-spans c.kind_of.ensures c.in-Some.is c.in-Spans.is c.in-Chunks.is in
    judged-words c.args.layout (job_of c.args.kind c.args.body.now) c.in-Chunks.field-0 e
    (sym c.has_words.ensures ∙ c.if-has_words.true) c.zeros_behind.result c.zeros_behind.ensures

pub returns-else-has_words : goal.returns-else-has_words
returns-else-has_words c = judged-bad c.args.layout (job_of c.args.kind c.args.body.now) (kind-spans c.kind_of.ensures c.in-Some.is c.in-Spans.is c.in-Chunks.is)
    (sym c.has_words.ensures ∙ c.if-has_words.false)

pub returns-then-has_fields : goal.returns-then-has_fields
returns-then-has_fields c = judged-times c.args.layout (job_of c.args.kind c.args.body.now) (kind-spans c.kind_of.ensures c.in-Some.is c.in-Spans.is c.in-Times.is)
    (sym c.has_fields.ensures ∙ c.if-has_fields.true)

pub returns-else-has_fields : goal.returns-else-has_fields
returns-else-has_fields c = judged-bad c.args.layout (job_of c.args.kind c.args.body.now) (kind-spans c.kind_of.ensures c.in-Some.is c.in-Spans.is c.in-Times.is)
    (sym c.has_fields.ensures ∙ c.if-has_fields.false)

pub returns-then-body-eq8 : goal.returns-then-body-eq8
returns-then-body-eq8 c = judged-good c.args.layout (job_of c.args.kind c.args.body.now) (kind-is c.kind_of.ensures c.in-Some.is c.in-Clock.is)
    (eq-eqb _ _ c.if-body-eq8.true) refl

pub returns-else-body-eq8 : goal.returns-else-body-eq8
returns-else-body-eq8 c = judged-bad c.args.layout (job_of c.args.kind c.args.body.now) (kind-is c.kind_of.ensures c.in-Some.is c.in-Clock.is)
    (ne_eqb _ _ c.if-body-eq8.false)

pub returns-then-body-eq0 : goal.returns-then-body-eq0
returns-then-body-eq0 c = judged-echoes c.args.layout (job_of c.args.kind c.args.body.now) (kind-is c.kind_of.ensures c.in-Some.is c.in-Echoes.is) c.if-body-eq0.true

pub returns-else-body-eq0 : goal.returns-else-body-eq0
returns-else-body-eq0 c = judged-bad c.args.layout (job_of c.args.kind c.args.body.now) (kind-is c.kind_of.ensures c.in-Some.is c.in-Echoes.is)
    (ne_eqb _ _ c.if-body-eq0.false)

pub returns-then-has_sums : goal.returns-then-has_sums
returns-then-has_sums c = judged-good c.args.layout (job_of c.args.kind c.args.body.now) (kind-is c.kind_of.ensures c.in-Some.is c.in-Statistics.is)
    (sym c.has_sums.ensures ∙ c.if-has_sums.true) refl

pub returns-else-has_sums : goal.returns-else-has_sums
returns-else-has_sums c = judged-bad c.args.layout (job_of c.args.kind c.args.body.now) (kind-is c.kind_of.ensures c.in-Some.is c.in-Statistics.is)
    (sym c.has_sums.ensures ∙ c.if-has_sums.false)

pub returns-in-None : goal.returns-in-None
returns-in-None c = judged-bad c.args.layout (job_of c.args.kind c.args.body.now) (sym c.kind_of.ensures ∙ c.in-None.is) refl
