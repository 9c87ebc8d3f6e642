-- `xport::xr_write_plain` meets its contract: the packet of a job list in the plain layout.
use Rattle.flat.proofs.FlatLaws.{flat-listed}
use mathlib.Core.Path.{refl}
use Rattle.xport.proofs.xr_write_plain.Goals as goal

pub returns : goal.returns
returns c = flat-listed refl c.write_plain.ensures c.answer.ensures
