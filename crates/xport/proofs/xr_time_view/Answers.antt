-- `xport::xr_time_view` meets its contract: the time of a block's view, of type 4.
use Rattle.def_wire.specs.Block.{time_of}
use Rattle.flat.specs.Flat.{flat_time}
use mathlib.Core.Path.{ap, ◌∙◌}
use Rattle.xport.proofs.xr_time_view.Goals as goal

pub returns : goal.returns
returns c = let a = c.args in
    c.time-2.ensures ∙ ap flat_time (c.time.ensures
    ∙ ap (λ q. time_of q a.view.now) c.reading.ensures)
