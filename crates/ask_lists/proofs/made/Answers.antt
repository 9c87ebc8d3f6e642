-- `ask_lists::made` meets its contract: words from marks, in so much room.
use Prim.Native.Nat.{ℕ}
use mathlib.Core.Path.{refl}
use Rattle.def_marks.specs.Marks.{marks_asked}
use Rattle.def_dump.specs.Lines.{words_line}
use Rattle.def_probe.specs.Requests.{line_in}
use Rattle.ask_lists.proofs.RoomLaws.{in-room, part_room}
use Rattle.ask_lists.proofs.made.Goals as goal

pub returns : goal.returns
returns c = let a = c.args in
    in-room (λ (n : ℕ). line_in n words_line (marks_asked a.ms.now))
    c.made_into.ensures
    (part_room _ _ _ _ refl c.min-n.ensures)
