-- `ask_lists::pairs` meets its contract: pairs, in so much room.
use Prim.Native.Nat.{ℕ}
use mathlib.Core.Path.{refl}
use Rattle.def_questions.specs.Packets.{pairs_asked}
use Rattle.def_dump.specs.Lines.{pairs_line}
use Rattle.def_probe.specs.Requests.{line_in}
use Rattle.ask_lists.proofs.RoomLaws.{in-room, part_room}
use Rattle.ask_lists.proofs.pairs.Goals as goal

pub returns : goal.returns
returns c = let a = c.args in
    in-room (λ (n : ℕ). line_in n pairs_line (pairs_asked a.r a.s.now a.k))
    c.pairs_into.ensures
    (part_room _ _ _ _ refl c.min-n.ensures)
