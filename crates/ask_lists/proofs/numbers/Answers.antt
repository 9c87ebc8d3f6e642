-- `ask_lists::numbers` meets its contract: numbers, in so much room.
use Prim.Native.Nat.{ℕ}
use mathlib.Core.Path.{refl}
use Rattle.def_questions.specs.ByNumber.{numbers_by}
use Rattle.def_dump.specs.Lines.{numbers_line}
use Rattle.def_probe.specs.Requests.{line_in}
use Rattle.ask_lists.proofs.RoomLaws.{in-room, part_room}
use Rattle.ask_lists.proofs.numbers.Goals as goal

pub returns : goal.returns
returns c = let a = c.args in
    in-room (λ (n : ℕ). line_in n numbers_line (numbers_by a.r a.s.now a.k a.t))
    c.numbers_into.ensures
    (part_room _ _ _ _ refl c.min-n.ensures)
