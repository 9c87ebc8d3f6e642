-- `loss_list::put_words` meets its contract: the words one by one.
use native.Mathlib.Omega.{arith}
use Rattle.laws.proofs.Filling.{start}
use Rattle.loss_list.proofs.ListLaws.{length-words}
use Rattle.loss_list.proofs.put_words.Goals as goal

pub loop-word-init : goal.loop-word-init
loop-word-init c = start (omega (arith, length-words c.args.words.now))
