-- `xport::xr_follow` meets its contract: a call on a packet in portions.
use Rattle.flat.proofs.FlatLaws.{flat-following}
use Rattle.xport.proofs.xr_follow.Goals as goal

pub returns : goal.returns
returns c = flat-following c.follow.ensures c.followed.ensures
