-- `dump::many_numbers` meets its contract: as many numbers as are shown of one list at most.
use native.Mathlib.Omega.{arith}
use mathlib.Core.Path.{refl}
use Rattle.dump.proofs.ListLaws.{numbers-shown, numbers-not-shown}
use Rattle.print.proofs.AddedLaws.{reads}
use Rattle.dump.proofs.many_numbers.Goals as goal

pub returns-in-Ok : goal.returns-in-Ok
returns-in-Ok c = reads (numbers-shown c.in-Ok.is c.numbers.ensures (omega arith))
    c.numbers_line.ensures

pub returns-in-Err : goal.returns-in-Err
returns-in-Err c = reads (numbers-not-shown c.in-Err.is c.numbers.ensures refl)
    c.refused_line.ensures
