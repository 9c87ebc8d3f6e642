-- `block_events::length_of` meets its contract: the length L that a block's header says.
use Rattle.xr.proofs.HeaderBytes.{length_taken}
use Rattle.block_events.proofs.length_of.Goals as goal

pub returns : goal.returns
returns c = length_taken c.args.v.now _ c.header_data.ensures _ c.block_length.ensures.0
