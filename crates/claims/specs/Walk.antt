-- The reader that holds the packet it was given, from `reader::new` by `reader::moved` (RULES, "Views, cursors and
-- the dump").
--     Reached          a reader that `new` and then k times `moved` answered; nothing is asked of them but their
--                      contracts
--     ReaderShows      what `reader::view` answers of it
use Rattle.std.specs.Prelude.{ℕ, zero, suc, ◌<◌, ◌≡◌, List, Ok}
use Rattle.std.specs.Borrow.{Bor}
use Rattle.def_wire.specs.declared.Reading.{Reading}
use Rattle.def_wire.specs.Packet.{count_of, locate, view_of, part_at, next_place, view_from, start_from}
use Rattle.reader.specs.declared.Reader.{Reader}

pub data Reached (s : Bor (List ℕ)) : ℕ → Reader → Type 0 where
  begun : {r : Reader} → (r.packet ≡ s) × (r.at ≡ 8) → Reached s zero r
  stepped : {k : ℕ} {d r : Reader} → Reached s k d → (r.packet ≡ d.packet)
      × (r.at ≡ next_place d.packet.now d.at)
      → Reached s (suc k) r

-- in a packet of n blocks `view` answers, after k moves, block k's view: its bytes, in the caller's own packet, for
-- each k below n
abbrev pub ReaderShows : Type 0
ReaderShows =
    (g : Reading) (s : Bor (List ℕ)) (n : ℕ) → count_of g s.now ≡ Ok n → (k : ℕ) (r : Reader) → Reached s k r
    → k < n
    → (v : Bor (List ℕ))
    → (v.now ≡ view_from g r.packet.now r.at) × (v.ref_ptr ≡ start_from r.packet.ref_ptr r.packet.now r.at)
    → (Ok v.now ≡ view_of g s.now k) × (v.ref_ptr ≡ part_at s.ref_ptr (locate g s.now k))
