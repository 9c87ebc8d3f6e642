-- `xport::xr_write_careful` meets its contract: the packet of a job list in the careful layout.
use Rattle.flat.proofs.FlatLaws.{flat-listed}
use mathlib.Core.Path.{refl}
use Rattle.xport.proofs.xr_write_careful.Goals as goal

pub returns : goal.returns
returns c = flat-listed refl c.write_careful.ensures c.answer.ensures
