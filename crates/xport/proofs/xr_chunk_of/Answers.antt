-- `xport::xr_chunk_of` meets its contract: what a chunk word is.
use Rattle.flat.specs.Flat.{flat_chunk}
use mathlib.Core.Path.{ap, ◌∙◌}
use Rattle.xport.proofs.xr_chunk_of.Goals as goal

pub returns : goal.returns
returns c = c.kind_number.ensures ∙ ap flat_chunk c.chunk_of.ensures
