-- `reader::view_at` meets its contract: its own L bytes for the standard, everything left for the crate.
use mathlib.Core.Path.{refl, ◌∙◌}
use Rattle.reader.proofs.PlacesLaws.{view-standard, view-crate}
use Rattle.reader.proofs.view_at.Goals as goal

pub returns-in-Standard : goal.returns-in-Standard
returns-in-Standard c = let a = c.args in
    let e = c.part.ensures in
    (e.result_value ∙ view-standard a.r a.s.now a.at _ c.in-Standard.is c.length_from-own.ensures.0, e.ref_ptr_value)

pub returns-in-Crate : goal.returns-in-Crate
returns-in-Crate c = let a = c.args in
    let e = c.part-in-Crate.ensures in
    (e.result_value ∙ view-crate a.r a.s.now a.at _ c.in-Crate.is refl, e.ref_ptr_value)
