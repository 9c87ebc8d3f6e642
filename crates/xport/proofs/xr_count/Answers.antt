-- `xport::xr_count` meets its contract: how many blocks a packet has.
use Rattle.def_wire.specs.Packet.{count_of}
use Rattle.flat.specs.Flat.{flat_of}
use mathlib.Core.Path.{ap, ◌∙◌}
use Rattle.xport.proofs.xr_count.Goals as goal

pub returns : goal.returns
returns c = let a = c.args in
    c.answer.ensures ∙ ap flat_of (c.count.ensures ∙ ap (λ q. count_of q a.packet.now)
    c.reading.ensures)
