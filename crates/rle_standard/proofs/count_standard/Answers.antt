-- `rle_standard::count_standard` meets its contract: the tally's count. Assumes nothing.
use Rattle.rle_standard.proofs.count_standard.Goals as goal

pub returns : goal.returns
returns c = c.tally-t.ensures.n_value
