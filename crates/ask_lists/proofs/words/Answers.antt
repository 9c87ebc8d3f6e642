-- `ask_lists::words` meets its contract: chunk words, in so much room.
use Prim.Native.Nat.{ℕ}
use mathlib.Core.Path.{refl}
use Rattle.def_questions.specs.ByNumber.{words_by}
use Rattle.def_dump.specs.Lines.{words_line}
use Rattle.def_probe.specs.Requests.{line_in}
use Rattle.ask_lists.proofs.RoomLaws.{in-room, part_room}
use Rattle.ask_lists.proofs.words.Goals as goal

pub returns : goal.returns
returns c = let a = c.args in
    in-room (λ (n : ℕ). line_in n words_line (words_by a.r a.s.now a.k a.t))
    c.words_into.ensures
    (part_room _ _ _ _ refl c.min-n.ensures)
