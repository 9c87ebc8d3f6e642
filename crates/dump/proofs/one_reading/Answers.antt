-- `dump::one_reading` meets its contract: all the blocks, or `refused N` alone.
use mathlib.Core.Path.{sym, ◌∙◌}
use Rattle.print.proofs.AddedLaws.{reads}
use Rattle.dump.proofs.DumpLaws.{reading-blocks, reading-refused}
use Rattle.dump.proofs.one_reading.Goals as goal

pub blocks-requires : goal.blocks-requires
blocks-requires c = sym c.count.ensures ∙ c.in-Ok.is

pub returns-in-Ok : goal.returns-in-Ok
returns-in-Ok c = reads (reading-blocks _ _ _ c.count.ensures _ c.in-Ok.is)
    c.blocks-in-Ok.ensures

pub returns-in-Err : goal.returns-in-Err
returns-in-Err c = reads (reading-refused _ _ _ c.count.ensures _ c.in-Err.is)
    c.refused_line.ensures
