-- `portions::count_turn` meets its contract.
use Rattle.portions.proofs.count_turn.Goals as goal

pub count_whole-requires : goal.count_whole-requires
count_whole-requires c = record { x_len_bound = c.requires.x_len_bound; whole_at = c.whole_block-l.ensures c.if-l-ne0.true }
