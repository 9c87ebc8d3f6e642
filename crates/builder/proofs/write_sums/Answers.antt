-- `builder::write_sums` meets its contract: a header, then SSRC, begin, end, the counts and the four last bytes.
use Rattle.builder.proofs.BlockLaws.{sums-wrote}
use Rattle.builder.proofs.write_sums.Goals as goal

pub returns : goal.returns
returns c = sums-wrote c.args.body.now c.put_head-ssrc.ensures
    c.put_number.ensures c.put_word.ensures c.put_word-2.ensures c.put_counts-hops.ensures
    c.put_hops.ensures
