-- `packet_receipt_time::listable_of` meets its contract: how many positions a reading lists from the first on,
-- whatever times there are.
use Rattle.packet_receipt_time.proofs.PairsAnswers.{listable-standard, listable-crate}
use Rattle.range.specs.Inside.{inside_count}
use Rattle.std.proofs.Common.{ap, ◌∙◌}
use Rattle.packet_receipt_time.proofs.listable_of.Goals as goal

pub returns-in-Standard : goal.returns-in-Standard
returns-in-Standard c = let a = c.args in
    c.inside_count.ensures ∙ ap inside_count c.range_of.ensures
    ∙ listable-standard a.r a.f c.in-Standard.is

pub returns-in-Crate : goal.returns-in-Crate
returns-in-Crate c = let a = c.args in
    c.first_fail.ensures ∙ listable-crate a.r a.f c.in-Crate.is
