-- `rle_words::count_words` meets its contract: two bytes make a word. Assumes nothing.
use Rattle.utils.proofs.BytesLaws.{length-pair_up}
use mathlib.Core.Path.{sym}
use Rattle.rle_words.proofs.count_words.Goals as goal

pub returns : goal.returns
returns c = sym (length-pair_up 256 c.args.bytes.now)
