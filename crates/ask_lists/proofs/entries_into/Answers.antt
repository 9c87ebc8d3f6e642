-- `ask_lists::entries_into` meets its contract: entries into three lent lists of equal room.
use mathlib.Core.Path.{ap, ◌∙◌}
use Rattle.print.proofs.AddedLaws.{reads}
use Rattle.lent.specs.Pattern.{mark32, pattern}
use Rattle.lent.proofs.TellLaws.{listed-entries}
use Rattle.ask_lists.proofs.entries_into.Goals as goal

pub returns : goal.returns
returns c = let q = c.requires in
    reads (listed-entries _ c.fill.ensures
    (c.fill-2.ensures ∙ ap (pattern mark32 0) q.0)
    (c.fill-3.ensures ∙ ap (pattern mark32 0) q.1)
    c.entries_in-x.ensures)
    c.tell_entries.ensures
