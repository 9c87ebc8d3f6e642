-- `numbers::word_bytes` meets its contract: the bytes of the words that a reading reads.
use Rattle.numbers.proofs.AskedLaws.{bytes-standard, bytes-crate}
use Rattle.xr.proofs.HeaderBytes.{length_taken}
use mathlib.Core.Path.{◌∙◌}
use Rattle.numbers.proofs.word_bytes.Goals as goal

pub returns-in-Standard : goal.returns-in-Standard
returns-in-Standard c = let a = c.args in
    c.part.ensures.result_value ∙ bytes-standard a.r a.v.now c.in-Standard.is

pub returns-in-Crate : goal.returns-in-Crate
returns-in-Crate c = let a = c.args in
    c.part-in-Crate.ensures.result_value
    ∙ bytes-crate a.r a.v.now c.saturating_sub.result c.block_length-l.result c.in-Crate.is
    c.saturating_sub.ensures
    (length_taken a.v.now _ c.header_data.ensures _ c.block_length-l.ensures.0)
