-- `packet_receipt_time::first_of` meets its contract: the number of a reading's first position.
use Rattle.std.proofs.Common.{ap, ◌∙◌, arith}
use Rattle.def_standard.specs.declared.Range.{Range}
use Rattle.packet_receipt_time.proofs.PairsAnswers.{first-standard, first-crate}
use Rattle.packet_receipt_time.proofs.first_of.Goals as goal

pub returns-in-Standard : goal.returns-in-Standard
returns-in-Standard c = let a = c.args in
    ap (λ (x : Range). x.begin) c.range_of.ensures ∙ first-standard a.r a.f c.in-Standard.is

pub returns-in-Crate : goal.returns-in-Crate
returns-in-Crate c = let a = c.args in first-crate a.r a.f (omega arith) c.in-Crate.is
