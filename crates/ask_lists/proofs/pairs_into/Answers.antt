-- `ask_lists::pairs_into` meets its contract: pairs into two lent lists of equal room.
use mathlib.Core.Path.{ap, ◌∙◌}
use Rattle.print.proofs.AddedLaws.{reads}
use Rattle.lent.specs.Pattern.{mark32, pattern}
use Rattle.lent.proofs.TellLaws.{listed-pairs}
use Rattle.ask_lists.proofs.pairs_into.Goals as goal

pub returns : goal.returns
returns c = reads (listed-pairs _ c.fill.ensures
    (c.fill-2.ensures ∙ ap (pattern mark32 0) c.requires)
    c.pairs_in-a.ensures)
    c.tell_pairs.ensures
