-- `builder::write_block` meets its contract: the block that a record asks for, by its kind.
use mathlib.Core.Path.{sym, ◌∙◌}
use lib.ListN.{length}
use lib.Dec.{eqb}
use borrow.Author.Tests.{eqb-true}
use Rattle.laws.proofs.Tests.{and-true}
use Rattle.laws.proofs.Stores.{none}
use Rattle.jobs.specs.Places.{job_of}
use Rattle.jobs.proofs.KindLaws.{kind-is, kind-spans}
use Rattle.block_size.proofs.JudgeLaws.{fields-are, good-words, block-as}
use Rattle.builder.proofs.JobLaws.{block_room, block-wrote}
use Rattle.builder.proofs.write_block.Goals as goal

-- a fit body, and room for its block
pub write_words-requires : goal.write_words-requires
write_words-requires c = let j = job_of c.args.kind c.args.body.now in
    let e = kind-spans c.kind_of.ensures c.in-Some.is c.in-Spans.is c.in-Chunks.is in
    (good-words j (sym (block-as j e) ∙ c.requires.0), block_room _ _ e _ _ c.requires.1)

pub write_times-requires : goal.write_times-requires
write_times-requires c = let j = job_of c.args.kind c.args.body.now in
    let e = kind-spans c.kind_of.ensures c.in-Some.is c.in-Spans.is c.in-Times.is in
    (fields-are j 4 (sym (block-as j e) ∙ c.requires.0), block_room _ _ e _ _ c.requires.1)

pub write_clock-requires : goal.write_clock-requires
write_clock-requires c = let e = kind-is c.kind_of.ensures c.in-Some.is c.in-Clock.is in
    (eqb-true _ _ (sym (block-as _ e) ∙ c.requires.0), block_room _ _ e _ _ c.requires.1)

pub write_echoes-requires : goal.write_echoes-requires
write_echoes-requires c = block_room _ _ (kind-is c.kind_of.ensures c.in-Some.is c.in-Echoes.is) _ _ c.requires.1

pub write_sums-requires : goal.write_sums-requires
write_sums-requires c = let e = kind-is c.kind_of.ensures c.in-Some.is c.in-Statistics.is in
    let good = sym (block-as (job_of c.args.kind c.args.body.now) e) ∙ c.requires.0 in
    (eqb-true _ _ (and-true (eqb (length c.args.body.now) 38) _ good).0, block_room _ _ e _ _ c.requires.1)

-- the block is written
pub returns-in-Chunks : goal.returns-in-Chunks
returns-in-Chunks c = block-wrote _ _ (kind-spans c.kind_of.ensures c.in-Some.is c.in-Spans.is c.in-Chunks.is) c.write_words.ensures

pub returns-in-Times : goal.returns-in-Times
returns-in-Times c = block-wrote _ _ (kind-spans c.kind_of.ensures c.in-Some.is c.in-Spans.is c.in-Times.is) c.write_times.ensures

pub returns-in-Clock : goal.returns-in-Clock
returns-in-Clock c = block-wrote _ _ (kind-is c.kind_of.ensures c.in-Some.is c.in-Clock.is) c.write_clock.ensures

pub returns-in-Echoes : goal.returns-in-Echoes
returns-in-Echoes c = block-wrote _ _ (kind-is c.kind_of.ensures c.in-Some.is c.in-Echoes.is) c.write_echoes.ensures

pub returns-in-Statistics : goal.returns-in-Statistics
returns-in-Statistics c = block-wrote _ _ (kind-is c.kind_of.ensures c.in-Some.is c.in-Statistics.is) c.write_sums.ensures

pub returns-in-None : goal.returns-in-None
returns-in-None c = block-wrote _ _ (sym c.kind_of.ensures ∙ c.in-None.is) none
