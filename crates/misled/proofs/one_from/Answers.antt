-- `misled::one_from` meets its contract, by the word's kind.
use Rattle.misled.proofs.FirstLaws.{first-vector}
use Rattle.misled.proofs.one_from.Goals as goal

pub returns : goal.returns
returns c = rw c.from.ensures (first-vector c.args.w c.args.place c.requires c.if-w-lt32768.false)
