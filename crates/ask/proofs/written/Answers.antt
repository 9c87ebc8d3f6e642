-- `ask::written` meets its contract: a packet, in so much room.
use Prim.Native.Nat.{ℕ}
use mathlib.Core.Path.{refl}
use Rattle.def_jobs.specs.Writing.{packet_of}
use Rattle.def_dump.specs.Lines.{packet_line}
use Rattle.def_probe.specs.Requests.{line_in}
use Rattle.ask_lists.proofs.RoomLaws.{in-room, part_room}
use Rattle.ask.proofs.written.Goals as goal

pub returns : goal.returns
returns c = let a = c.args in
    in-room (λ (n : ℕ). line_in n packet_line (packet_of a.layout a.list.now))
    c.written_into.ensures
    (part_room _ _ _ _ refl c.min-n.ensures)
