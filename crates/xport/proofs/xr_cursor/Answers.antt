-- `xport::xr_cursor` meets its contract: at most budget steps of the standard number cursor in block k, asked as type
-- t (1 or 2).
use Rattle.flat.proofs.FlatLaws.{flat-stretched}
use Rattle.xport.proofs.xr_cursor.Goals as goal

pub returns : goal.returns
returns c = flat-stretched c.advance.ensures c.stretch.ensures
