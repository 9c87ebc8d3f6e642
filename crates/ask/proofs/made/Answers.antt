-- `ask::made` meets its contract: a chunk word, in so much room.
use Prim.Native.Nat.{ℕ}
use mathlib.Core.Path.{refl}
use Rattle.def_standard.specs.Chunks.{word_bytes}
use Rattle.def_probe.specs.Requests.{line_in, word_told}
use Rattle.ask_lists.proofs.RoomLaws.{in-room, part_room}
use Rattle.ask.proofs.made.Goals as goal

pub returns : goal.returns
returns c = let a = c.args in
    in-room (λ (n : ℕ). line_in n word_told (word_bytes a.chunk))
    c.made_into.ensures
    (part_room _ _ _ _ refl c.min-n.ensures)
