-- `ask_lists::stretch` meets its contract: a stretch of the number cursor, in so much room.
use Prim.Native.Nat.{ℕ}
use mathlib.Core.Path.{refl}
use Rattle.def_probe.specs.Requests.{stretch_in}
use Rattle.ask_lists.proofs.RoomLaws.{in-room, part_room}
use Rattle.ask_lists.proofs.stretch.Goals as goal

pub returns : goal.returns
returns c = let a = c.args in
    in-room (λ (n : ℕ). stretch_in a.s.now a.k a.t a.c a.budget n)
    c.stretch_into.ensures
    (part_room _ _ _ _ refl c.min-n.ensures)
