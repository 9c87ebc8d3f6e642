-- `xport::xr_cursor_view` meets its contract: at most budget steps of the standard number cursor in a block's view,
-- asked as type t (1 or 2).
use Rattle.flat.specs.Flat.{flat_stretch}
use mathlib.Core.Path.{ap, ◌∙◌}
use Rattle.xport.proofs.xr_cursor_view.Goals as goal

pub returns : goal.returns
returns c = ((c.stretch.ensures ∙ ap flat_stretch c.advance_view.ensures.0), c.advance_view.ensures.1)
