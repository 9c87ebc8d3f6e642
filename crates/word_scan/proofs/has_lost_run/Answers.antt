-- `word_scan::has_lost_run` meets its contract: a block's word with its bytes the other way round. Assumes nothing.
use mathlib.Core.Path.{sym, ◌∙◌}
use Rattle.word_scan.proofs.ScanLaws.{has-swapped}
use Rattle.word_scan.proofs.has_lost_run.Goals as goal

pub returns : goal.returns
returns c = c.has_low.ensures ∙ sym (has-swapped c.args.bytes.now (λ i. (c.type_inv.bytes i).fits))
