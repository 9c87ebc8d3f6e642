-- `builder::put_counts` meets its contract: six numbers in a row.
use Rattle.builder.proofs.BlockLaws.{counts-wrote}
use Rattle.builder.proofs.put_counts.Goals as goal

pub returns : goal.returns
returns c = counts-wrote c.args.body.now c.put_number.ensures
    c.put_number-2.ensures c.put_number-3.ensures c.put_number-4.ensures c.put_number-5.ensures
    c.put_number-6.ensures
