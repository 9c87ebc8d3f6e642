-- `portions::put_turn` meets its contract.
use Rattle.portions.proofs.put_turn.Goals as goal

pub put_whole-requires : goal.put_whole-requires
put_whole-requires c = record { x_bound = c.requires.x_bound; whole_at = c.whole_block-l.ensures c.if-l-ne0.true }
