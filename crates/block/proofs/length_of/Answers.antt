-- `block::length_of` meets its contract: the length L that a view's header bytes say.
use Rattle.xr.proofs.HeaderBytes.{length_taken}
use Rattle.block.proofs.length_of.Goals as goal

pub returns : goal.returns
returns c = (
  length_taken c.args.v.now _ c.header_data.ensures _ c.block_length.ensures.0,
  c.block_length.ensures.1,
)
