-- `numbers::numbers` meets its contract: the numbers of a block's view, reading by reading.
use mathlib.Core.Path.{sym, ap}
use Rattle.def_wire.specs.declared.Reading.{Reading}
use Rattle.def_questions.specs.Questions.{numbers_shown}
use Rattle.numbers.proofs.AskedLaws.{listed-as}
use Rattle.numbers.proofs.numbers.Goals as goal

pub returns-in-Standard : goal.returns-in-Standard
returns-in-Standard c = let a = c.args in
    listed-as (ap (λ (r : Reading). numbers_shown r a.a a.v.now) (sym c.in-Standard.is))
    c.standard_numbers.ensures

pub returns-in-Crate : goal.returns-in-Crate
returns-in-Crate c = let a = c.args in
    listed-as (ap (λ (r : Reading). numbers_shown r a.a a.v.now) (sym c.in-Crate.is))
    c.crate_numbers.ensures
