-- `block::fields_at` meets its contract: SSRC, begin, end and thinning as they stand.
use mathlib.Core.Path.{◌≡◌}
use Rattle.def_wire.specs.Block.{specific_of}
use Rattle.xr.proofs.HeaderBytes.{specific-taken}
use Rattle.block.proofs.fields_at.Goals as goal

pub returns : goal.returns
returns c = let v = c.args.v.now in
    let t : c.type_specific_byte.result ≡ specific_of v = specific-taken v _ c.header_data-h.ensures _
    c.type_specific_byte.ensures in
    cc
