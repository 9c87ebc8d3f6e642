-- `xr::at_place` meets its contract.
use Rattle.xr.proofs.WalkLaws.{size-standard, size-crate}
use Rattle.xr.proofs.at_place.Goals as goal

pub returns-in-Standard : goal.returns-in-Standard
returns-in-Standard c = let a = c.args in
    size-standard a.r a.s.now a.place c.length_at.result c.in-Standard.is
    c.length_at.ensures.value

pub returns-in-Crate : goal.returns-in-Crate
returns-in-Crate c = let a = c.args in
    size-crate a.r a.s.now a.place c.in-Crate.is
