-- `xport::xr_summary_view` meets its contract: what a block's view, of type 6, shows.
use Rattle.def_wire.specs.Summary.{summary_of}
use Rattle.flat.specs.Flat.{flat_summary}
use mathlib.Core.Path.{ap, ◌∙◌}
use Rattle.xport.proofs.xr_summary_view.Goals as goal

pub returns : goal.returns
returns c = let a = c.args in
    c.summary-2.ensures ∙ ap flat_summary (c.summary.ensures
    ∙ ap (λ q. summary_of q a.view.now) c.reading.ensures)
