-- `xport::xr_locate` meets its contract: where block k's view begins in the packet, and how many bytes it has.
use Rattle.def_wire.specs.Packet.{locate}
use Rattle.flat.specs.Flat.{flat_located}
use mathlib.Core.Path.{ap, ◌∙◌}
use Rattle.xport.proofs.xr_locate.Goals as goal

pub returns : goal.returns
returns c = let a = c.args in
    c.located.ensures ∙ ap flat_located (c.locate.ensures
    ∙ ap (λ q. locate q a.packet.now a.k) c.reading.ensures)
