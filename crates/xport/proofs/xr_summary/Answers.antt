-- `xport::xr_summary` meets its contract: what block k, of type 6, shows.
use Rattle.def_questions.specs.Packets.{summary_asked}
use Rattle.flat.specs.Flat.{flat_summary}
use mathlib.Core.Path.{ap, ◌∙◌}
use Rattle.xport.proofs.xr_summary.Goals as goal

pub returns : goal.returns
returns c = let a = c.args in
    c.summary.ensures ∙ ap flat_summary (c.summary_in.ensures
    ∙ ap (λ q. summary_asked q a.packet.now a.k) c.reading.ensures)
