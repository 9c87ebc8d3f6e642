-- `dump::many_pairs` meets its contract: as many pairs as are shown of one list at most.
use native.Mathlib.Omega.{arith}
use mathlib.Core.Path.{refl}
use Rattle.dump.proofs.ListLaws.{pairs-shown, pairs-not-shown}
use Rattle.print.proofs.AddedLaws.{reads}
use Rattle.dump.proofs.many_pairs.Goals as goal

pub returns-in-Ok : goal.returns-in-Ok
returns-in-Ok c = reads (pairs-shown c.in-Ok.is c.pairs.ensures (omega arith))
    c.pairs_line.ensures

pub returns-in-Err : goal.returns-in-Err
returns-in-Err c = reads (pairs-not-shown c.in-Err.is c.pairs.ensures refl)
    c.refused_line.ensures
