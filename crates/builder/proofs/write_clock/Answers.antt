-- `builder::write_clock` meets its contract: a header, then the high and the low half of the time.
use Rattle.builder.proofs.BlockLaws.{clock-wrote}
use Rattle.builder.proofs.write_clock.Goals as goal

pub returns : goal.returns
returns c = clock-wrote c.args.body.now (λ i. (c.type_inv.body i).fits) c.put_head-high.ensures
    c.put_number.ensures c.put_number-2.ensures
