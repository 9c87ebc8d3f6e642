-- `misled::misled` meets its contract, by the kind.
use Rattle.std.proofs.Common.{◌≡◌, true, sym, ◌∙◌, arith}
use Rattle.def_jobs.specs.Jobs.{is_block_job}
use Rattle.jobs.specs.Places.{job_of}
use Rattle.jobs.proofs.KindLaws.{kind-is, kind-spans}
use Rattle.block_size.specs.Judged.{Fielded}
use Rattle.misled.proofs.MisledLaws.{fielded-words, fielded-times, misled-bad, misled-as, misled-times}
use Rattle.misled.proofs.misled.Goals as goal
use Rattle.misled.proofs.misled.Goals.{After-kind_of, In-Chunks, In-Times}

-- the record is good, and its body is as its kind has it
good : (f : After-kind_of) → is_block_job (job_of f.args.kind f.args.body.now) ≡ true
good f = sym f.is_block.ensures ∙ f.if-not-is_block.false

words : (t : In-Chunks) → is_block_job (job_of t.args.kind t.args.body.now) ≡ true → Fielded t.args.body.now 2
words t e = fielded-words (job_of t.args.kind t.args.body.now) t.args.behind e t.in-Chunks.field-0 (kind-spans t.kind_of.ensures t.in-Some.is t.in-Spans.is t.in-Chunks.is)

times : (t : In-Times) → is_block_job (job_of t.args.kind t.args.body.now) ≡ true → Fielded t.args.body.now 4
times t e = fielded-times (job_of t.args.kind t.args.body.now) t.args.behind e (kind-spans t.kind_of.ensures t.in-Some.is t.in-Spans.is t.in-Times.is)

pub returns-then-not-is_block : goal.returns-then-not-is_block
returns-then-not-is_block c = misled-bad (job_of c.args.kind c.args.body.now) c.args.behind (sym c.is_block.ensures ∙ c.if-not-is_block.true)

pub fields_of-f-requires : goal.fields_of-f-requires
fields_of-f-requires c =
    (words (goal.at.fields_of-f-requires c).In-Chunks (good (goal.at.fields_of-f-requires c).After-kind_of)).thin

pub goes_on-requires : goal.goes_on-requires
goes_on-requires c = words (goal.at.goes_on-requires c).In-Chunks (good (goal.at.goes_on-requires c).After-kind_of)

pub overflow_sub-own : goal.overflow_sub-own
overflow_sub-own c =
    omega (arith, (times (goal.at.overflow_sub-own c).In-Times (good (goal.at.overflow_sub-own c).After-kind_of)).ten)

pub fields_of-requires : goal.fields_of-requires
fields_of-requires c = (times (goal.at.fields_of-requires c).In-Times (good (goal.at.fields_of-requires c).After-kind_of)).thin

pub returns-in-Chunks : goal.returns-in-Chunks
returns-in-Chunks c =
    let e = misled-as (job_of c.args.kind c.args.body.now) c.args.behind (good (goal.at.returns-in-Chunks c).After-kind_of)
    (kind-spans c.kind_of.ensures c.in-Some.is c.in-Spans.is c.in-Chunks.is) in
    c.goes_on.ensures ∙ (rw (c.shared_of.ensures, c.fields_of-f.ensures) e)

pub returns-in-Times : goal.returns-in-Times
returns-in-Times c =
    let e = misled-times (job_of c.args.kind c.args.body.now) c.args.behind (good (goal.at.returns-in-Times c).After-kind_of)
    (kind-spans c.kind_of.ensures c.in-Some.is c.in-Spans.is c.in-Times.is) in
    c.misled_times.ensures ∙ (rw c.fields_of.ensures e)

pub returns-in-Clock : goal.returns-in-Clock
returns-in-Clock c =
    misled-as (job_of c.args.kind c.args.body.now) c.args.behind (good (goal.at.returns-in-Clock c).After-kind_of) (kind-is c.kind_of.ensures c.in-Some.is c.in-Clock.is)

pub returns-in-Echoes : goal.returns-in-Echoes
returns-in-Echoes c =
    c.misled_echoes.ensures
    ∙ misled-as (job_of c.args.kind c.args.body.now) c.args.behind (good (goal.at.returns-in-Echoes c).After-kind_of) (kind-is c.kind_of.ensures c.in-Some.is c.in-Echoes.is)

pub returns-in-Statistics : goal.returns-in-Statistics
returns-in-Statistics c =
    misled-as (job_of c.args.kind c.args.body.now) c.args.behind (good (goal.at.returns-in-Statistics c).After-kind_of) (kind-is c.kind_of.ensures c.in-Some.is c.in-Statistics.is)

pub returns-in-None : goal.returns-in-None
returns-in-None c =
    misled-as (job_of c.args.kind c.args.body.now) c.args.behind (good (goal.at.returns-in-None c).After-kind_of) (sym c.kind_of.ensures ∙ c.in-None.is)
