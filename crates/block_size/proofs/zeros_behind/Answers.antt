-- `block_size::zeros_behind` meets its contract: only the last word is looked at.
use mathlib.Core.Path.{sym, ◌∙◌}
use Rattle.def_jobs.specs.Jobs.{job_words}
use Rattle.jobs.specs.Places.{job_of}
use Rattle.block_size.proofs.ZerosLaws.{count-words, last_word_lem, last_none, zeros-odd, zeros-plain, zeros-zero}
use Rattle.block_size.proofs.ZerosLaws.{zeros-two}
use Rattle.block_size.proofs.zeros_behind.Goals as goal

pub returns-then-words-eq1 : goal.returns-then-words-eq1
returns-then-words-eq1 c = let a = c.args in
    let j = job_of 1 a.body.now in
    zeros-odd (job_words j) _ (count-words j c.saturating_sub-words.result c.saturating_sub-words.ensures) a.layout c.if-words-eq1.true

pub returns-then-words-eq0 : goal.returns-then-words-eq0
returns-then-words-eq0 c = let a = c.args in
    let j = job_of 1 a.body.now in
    let k = count-words j c.saturating_sub-words.result c.saturating_sub-words.ensures in
    zeros-zero (job_words j) _ k a.layout c.if-words-eq1.false c.in-Careful.is
    (last_none (job_words j) _ k c.if-words-eq0.true)

pub returns-then-u16_from_le_bytes-eq0 : goal.returns-then-u16_from_le_bytes-eq0
returns-then-u16_from_le_bytes-eq0 c = let a = c.args in
    let j = job_of 1 a.body.now in
    let k = count-words j c.saturating_sub-words.result c.saturating_sub-words.ensures in
    zeros-zero (job_words j) _ k a.layout c.if-words-eq1.false c.in-Careful.is
    (last_word_lem j _ k c.if-words-eq0.false ∙ sym c.u16_from_le_bytes.ensures ∙ c.if-u16_from_le_bytes-eq0.true)

pub returns-in-Plain : goal.returns-in-Plain
returns-in-Plain c = let a = c.args in
    let j = job_of 1 a.body.now in
    zeros-plain (job_words j) _ (count-words j c.saturating_sub-words.result c.saturating_sub-words.ensures) a.layout c.if-words-eq1.false
    c.in-Plain.is

pub returns-else-u16_from_le_bytes-eq0 : goal.returns-else-u16_from_le_bytes-eq0
returns-else-u16_from_le_bytes-eq0 c = let a = c.args in
    let j = job_of 1 a.body.now in
    let k = count-words j c.saturating_sub-words.result c.saturating_sub-words.ensures in
    zeros-two (job_words j) _ k a.layout c.if-words-eq1.false c.in-Careful.is
    (λ z. c.if-u16_from_le_bytes-eq0.false (c.u16_from_le_bytes.ensures ∙ sym (last_word_lem j _ k c.if-words-eq0.false) ∙ z))
