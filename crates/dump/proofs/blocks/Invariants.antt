-- `dump::blocks` meets its contract: the blocks of an accepted packet, one after the other.
use Prim.Native.Nat.{◌-◌}
use mathlib.Core.Path.{◌≡◌}
use Rattle.def_wire.specs.Packet.{place_of}
use Rattle.def_dump.specs.Dump.{blocks_text}
use Rattle.print.proofs.AddedLaws.{Adding}
use Rattle.dump.proofs.blocks.Given as goal

abbrev pub invariant-loop-k : goal.invariant-loop-k
invariant-loop-k l =
    (l.place ≡ place_of l.packet l.k)
    × Adding l.initial.buf l.at (blocks_text l.r l.packet 0 l.count) l.buf l.n (blocks_text l.r l.packet l.k (l.count - l.k))
