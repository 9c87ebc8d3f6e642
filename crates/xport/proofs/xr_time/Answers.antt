-- `xport::xr_time` meets its contract: the time of block k, of type 4.
use Rattle.def_questions.specs.Packets.{time_asked}
use Rattle.flat.specs.Flat.{flat_time}
use mathlib.Core.Path.{ap, ◌∙◌}
use Rattle.xport.proofs.xr_time.Goals as goal

pub returns : goal.returns
returns c = let a = c.args in
    c.time.ensures ∙ ap flat_time (c.time_in.ensures
    ∙ ap (λ q. time_asked q a.packet.now a.k) c.reading.ensures)
