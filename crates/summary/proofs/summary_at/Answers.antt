-- `summary::summary_at` meets its contract: the numbers as they stand, by the flags.
use mathlib.Core.Path.{◌≡◌}
use Rattle.def_wire.specs.Block.{specific_of}
use Rattle.xr.proofs.HeaderBytes.{specific-taken}
use Rattle.summary.proofs.summary_at.Goals as goal

pub returns : goal.returns
returns c = let v = c.args.v.now in
    let e : c.type_specific_byte.result ≡ specific_of v = specific-taken v _ c.header_data-h.ensures _
    c.type_specific_byte.ensures in
    rw (c.summary_from.ensures, e, c.sums_at.ensures)
